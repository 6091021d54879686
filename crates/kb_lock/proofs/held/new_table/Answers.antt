use Rattle.std.proofs.Common.{◌≡◌, [], ◌∷◌, Some, rules}
use Rattle.kb_lock.proofs.Kept.{starts}
use Rattle.kb_lock.proofs.held.new_table.Goals as goal

pub new-requires : goal.new-requires
new-requires g c =
    let slot : c.push.new.self.items ≡ Some c.args.value ∷ [] = search rules in
    let about : c.of-about.result.value ≡ c.args.value = search rules in
    rw (slot, about) (starts g.T.Counted.history c.args.value c.count-count.result c.count-count.ensures)
