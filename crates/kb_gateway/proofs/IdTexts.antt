-- How long the text of an id is.
use Rattle.std.proofs.Common.{◌≡◌, ℕ, ◌+◌, List, ◌++◌, length, arith, length-append}
use Rattle.uuid.proofs.TextLemmas.{by_index_length}
use Rattle.kb_gateway.specs.GatewayLines.{id_text}

-- an id has 36 characters
pub id_text_long : (before id : List ℕ) → length (before ++ id_text id) ≡ length before + 36
id_text_long before id =
    let long : length (id_text id) ≡ 36 = by_index_length 36 _ in
    omega (arith, length-append before (id_text id), long)
