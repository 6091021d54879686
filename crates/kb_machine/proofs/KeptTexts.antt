-- The keys of texts, as a map and as its entries.
use Rattle.std.proofs.Common.{◌≡◌, ℕ, sym, ap, subst, ◌∙◌, List, [], Option, Some}
use Rattle.std.specs.Cmp.Lexicographic.{nat_list_cmp_total}
use Rattle.std.specs.FinMap.{FinMap, find, put, entries, get, insert, empty, len, get-entries, entries-insert}
use Rattle.std.specs.FinMap.{len-empty, len-entries}
use Rattle.std.proofs.lemmas.List.{nil_from_length}
use Rattle.kb_sharing.specs.Keys.{by_words}
use Rattle.kb_book.specs.Rows.{IsUnprepared}
use Rattle.kb_book.specs.declared.unprepared.Unprepared.{Unprepared}
use Rattle.kb_machine.specs.Judged.{Judged, Again, refusal_in}
use Rattle.kb_machine.specs.Texts.{KeptText, TextsValue, by_key}

-- what is found in a map is found among its entries
pub text_found : {X : Type 0} (keys : FinMap by_words X) (key : List ℕ) (found : Option X)
    → found ≡ get keys key
    → find by_words key (entries keys) ≡ found
text_found keys key found is = sym (is ∙ get-entries keys key)

-- what is put into a map is put among its entries
pub text_kept : {X : Type 0} (old new : FinMap by_words X) (key : List ℕ) (value : X)
    → new ≡ insert old key value
    → entries new ≡ put by_words key value (entries old)
text_kept old new key value is = ap entries is ∙ entries-insert nat_list_cmp_total old key value

-- an empty map has no entry
pub none_kept : {X : Type 0} (keys : FinMap by_words X) → keys ≡ empty → entries keys ≡ []
none_kept {X} keys none =
    nil_from_length (entries keys) (sym (len-entries keys) ∙ ap len none ∙ len-empty by_words X)

-- what a text that was accepted comes to under its key
pub told_again : (found : Option KeptText) (kept : KeptText) (spelled : List ℕ) (number : ℕ)
    → found ≡ Some kept → ((new : Judged ℕ TextsValue) → by_key (Some kept) spelled new ≡ Again number)
    → (new : Judged ℕ TextsValue) → by_key found spelled new ≡ Again number
told_again found kept spelled number is again new =
    let P : Option KeptText → Type 0 = λ found. by_key found spelled new
    ≡ Again number in subst P (sym is) (again new)

pub told_refused : (found : Option KeptText) (kept : KeptText) (spelled : List ℕ) (fault : Unprepared)
    → found ≡ Some kept
    → ((new : Judged ℕ TextsValue) → IsUnprepared (refusal_in (by_key (Some kept) spelled new)) fault)
    → (new : Judged ℕ TextsValue) → IsUnprepared (refusal_in (by_key found spelled new)) fault
told_refused found kept spelled fault is refused new =
    let P : Option KeptText → Type 0 = λ found. IsUnprepared (refusal_in (by_key found spelled new)) fault in
    subst P (sym is) (refused new)
