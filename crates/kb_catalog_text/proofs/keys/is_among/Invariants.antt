-- The keys that are left give what all give.
use Rattle.std.proofs.Common.{◌≡◌, map, drop}
use Rattle.kb_catalog_text.specs.Reads.{is_among}
use Rattle.kb_catalog_text.proofs.keys.is_among.Given as goal

abbrev pub invariant-loop-other : goal.invariant-loop-other
invariant-loop-other l = is_among (map (λ key. key.now) (drop l.other-index l.keys)) l.key
    ≡ is_among (map (λ key. key.now) l.keys) l.key
