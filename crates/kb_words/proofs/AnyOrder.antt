-- Options may stand in any order: two neighbours exchanged say the same.
use Rattle.std.proofs.Common.{◌≡◌, Bool, true, false, not, ◌&&◌, ◌||◌, cond, if◌then◌else◌, List, [], ◌∷◌}
use Rattle.std.proofs.Common.{◌++◌, Option, Some, None, is_some, refl, sym, ap, ap₂, ◌∙◌}
use Rattle.std.specs.Prelude.{option_map, find}
use Rattle.std.specs.List.{list_all, list_any}
use Rattle.std.proofs.lemmas.Slice.Eq.{bytes_eq-Decides}
use Rattle.std.proofs.lemmas.Bool.{and_parts}
use Rattle.kb_words.specs.declared.verb.Verb.{Verb}
use Rattle.kb_words.specs.declared.setting.Setting.{Setting}
use Rattle.kb_words.specs.declared.given.Given.{Given}
use Rattle.kb_words.specs.declared.words.Words.{Words}
use Rattle.kb_words.specs.Commands.{Text, may_be_missing, same_setting, setting_name, settings_of}
use Rattle.kb_words.specs.Options.{are_options_of, is_among, is_settled, stand_once, value_of}
use Rattle.kb_words.specs.Grammar.{words_with}
use Rattle.kb_words.proofs.Reread.{command_words-same}

-- two tests before others
and_swap : (x y z : Bool) → (x && (y && z)) ≡ (y && (x && z))
and_swap true true z = refl
and_swap true false z = refl
and_swap false true z = refl
and_swap false false z = refl

or_swap : (x y z : Bool) → (x || (y || z)) ≡ (y || (x || z))
or_swap true true z = refl
or_swap true false z = refl
or_swap false true z = refl
or_swap false false z = refl

list_all-exchanged : (p : Given → Bool) (front : List Given) (a b : Given) (rest : List Given)
    → list_all p (front ++ a ∷ b ∷ rest) ≡ list_all p (front ++ b ∷ a ∷ rest)
list_all-exchanged p [] a b rest = and_swap (p a) (p b) (list_all p rest)
list_all-exchanged p (x ∷ front) a b rest = ap (λ (t : Bool). p x && t) (list_all-exchanged p front a b rest)

list_any-exchanged : (p : Given → Bool) (front : List Given) (a b : Given) (rest : List Given)
    → list_any p (front ++ a ∷ b ∷ rest) ≡ list_any p (front ++ b ∷ a ∷ rest)
list_any-exchanged p [] a b rest = or_swap (p a) (p b) (list_any p rest)
list_any-exchanged p (x ∷ front) a b rest = ap (λ (t : Bool). p x || t) (list_any-exchanged p front a b rest)

-- the same option is one with the same name
same-name : (s t : Setting) → same_setting s t ≡ true → setting_name s ≡ setting_name t
same-name s t h = (bytes_eq-Decides (setting_name s) (setting_name t)).0 h

name-same : (s t : Setting) → setting_name s ≡ setting_name t → same_setting s t ≡ true
name-same s t e = (bytes_eq-Decides (setting_name s) (setting_name t)).1 e

same-sym : (s t : Setting) → same_setting s t ≡ same_setting t s
same-sym s t = go (same_setting s t) (same_setting t s) refl refl
  where
    go : (x y : Bool) → same_setting s t ≡ x → same_setting t s ≡ y → x ≡ y
    go true true e f = refl
    go false false e f = refl
    go true false e f = sym (name-same t s (sym (same-name s t e))) ∙ f
    go false true e f = sym e ∙ name-same s t (sym (same-name t s f))

-- that none stands twice doesn't depend on the order
once_swap : (x y z w : Bool) → (not (x || y) && (not z && w)) ≡ (not (x || z) && (not y && w))
once_swap true y z w = refl
once_swap false true true w = refl
once_swap false true false w = refl
once_swap false false true w = refl
once_swap false false false w = refl

-- an option like one stands among others
abbrev stands : List Given → Given → Bool
stands options one = list_any (λ later. same_setting later.setting one.setting) options

stand_once-exchanged : (front : List Given) (a b : Given) (rest : List Given)
    → stand_once (front ++ a ∷ b ∷ rest) ≡ stand_once (front ++ b ∷ a ∷ rest)
stand_once-exchanged [] a b rest =
    rw (same-sym b.setting a.setting)
    (once_swap (same_setting a.setting b.setting) (stands rest a) (stands rest b) (stand_once rest))
stand_once-exchanged (x ∷ front) a b rest =
    ap₂ (λ (t u : Bool). not t && u)
    (list_any-exchanged (λ later. same_setting later.setting x.setting) front a b rest)
    (stand_once-exchanged front a b rest)

-- neighbours where none stands twice are different options
different : (front : List Given) (a b : Given) (rest : List Given) → stand_once (front ++ a ∷ b ∷ rest) ≡ true
    → same_setting b.setting a.setting ≡ false
different [] a b rest h = go (same_setting b.setting a.setting) (stands rest a) (and_parts _ _ h).0
  where
    go : (x y : Bool) → not (x || y) ≡ true → x ≡ false
    go true y e = absurd (cc)
    go false y e = refl
different (x ∷ front) a b rest h = different front a b rest (and_parts _ _ h).1

-- the first that passes, where not both do
first_swap : (x y : Bool) (a b : Given) (o : Option Given) → (x ≡ true → y ≡ true → ⊥)
    → cond x (Some a) (cond y (Some b) o) ≡ cond y (Some b) (cond x (Some a) o)
first_swap true true a b o h = absurd (h refl refl)
first_swap true false a b o h = refl
first_swap false true a b o h = refl
first_swap false false a b o h = refl

-- so an option has the same value in either order
value_of-exchanged : (s : Setting) (front : List Given) (a b : Given) (rest : List Given)
    → same_setting b.setting a.setting ≡ false
    → value_of s (front ++ a ∷ b ∷ rest) ≡ value_of s (front ++ b ∷ a ∷ rest)
value_of-exchanged s front a b rest h = ap (option_map (λ option. option.value)) (found front)
  where
    alike : Given → Bool
    alike option = same_setting option.setting s

    both : alike a ≡ true → alike b ≡ true → ⊥
    both e f = let same = name-same b.setting a.setting (same-name b.setting s f
        ∙ sym (same-name a.setting s e)) in cc

    found : (front : List Given) → find alike (front ++ a ∷ b ∷ rest) ≡ find alike (front ++ b ∷ a ∷ rest)
    found [] = first_swap (alike a) (alike b) a b (find alike rest) both
    found (x ∷ front) = ap (λ (o : Option Given). cond (alike x) (Some x) o) (found front)

-- that the options are a command's doesn't depend on the order
is_settled-exchanged : (front : List Given) (a b : Given) (rest : List Given)
    → same_setting b.setting a.setting ≡ false → (s : Setting)
    → is_settled (front ++ a ∷ b ∷ rest) s ≡ is_settled (front ++ b ∷ a ∷ rest) s
is_settled-exchanged front a b rest h s =
    ap (λ (o : Option Text). may_be_missing s || is_some o) (value_of-exchanged s front a b rest h)

list_all-same : (p q : Setting → Bool) (settings : List Setting) → ((s : Setting) → p s ≡ q s)
    → list_all p settings ≡ list_all q settings
list_all-same p q [] h = refl
list_all-same p q (s ∷ rest) h = ap₂ (λ (t u : Bool). t && u) (h s) (list_all-same p q rest h)

-- no command takes options of which one stands twice
are_options_of-twice : (verb : Verb) (options : List Given) → stand_once options ≡ false
    → are_options_of verb options ≡ false
unfolding are_options_of
are_options_of-twice verb options h =
    go (list_all (λ option. is_among (settings_of verb) option.setting) options) (stand_once options)
    (list_all (is_settled options) (settings_of verb)) h
  where
    go : (x y z : Bool) → y ≡ false → (x && y && z) ≡ false
    go true true z e = absurd (cc)
    go true false z e = refl
    go false y z e = refl

are_options_of-exchanged : (verb : Verb) (front : List Given) (a b : Given) (rest : List Given)
    → same_setting b.setting a.setting ≡ false
    → are_options_of verb (front ++ a ∷ b ∷ rest) ≡ are_options_of verb (front ++ b ∷ a ∷ rest)
unfolding are_options_of
are_options_of-exchanged verb front a b rest h =
    ap₂ (λ (t u : Bool). t && u)
    (ap₂ (λ (t u : Bool). t && u)
    (list_all-exchanged (λ option. is_among (settings_of verb) option.setting) front a b rest)
    (stand_once-exchanged front a b rest))
    (list_all-same _ _ (settings_of verb) (is_settled-exchanged front a b rest h))

words_with-different : (verb : Verb) (front : List Given) (a b : Given) (rest : List Given)
    → same_setting b.setting a.setting ≡ false
    → words_with verb (front ++ a ∷ b ∷ rest) ≡ words_with verb (front ++ b ∷ a ∷ rest)
words_with-different verb front a b rest h =
    ap₂ (λ (t : Bool) (o : Option Words). if t then o else None)
    (are_options_of-exchanged verb front a b rest h)
    (command_words-same verb _ _ (λ s. value_of-exchanged s front a b rest h))

-- what a command says doesn't depend on the order of its options
pub words_with-exchanged : (verb : Verb) (front : List Given) (a b : Given) (rest : List Given)
    → words_with verb (front ++ a ∷ b ∷ rest) ≡ words_with verb (front ++ b ∷ a ∷ rest)
words_with-exchanged verb front a b rest = go (stand_once (front ++ a ∷ b ∷ rest)) refl
  where
    go : (once : Bool) → stand_once (front ++ a ∷ b ∷ rest) ≡ once
        → words_with verb (front ++ a ∷ b ∷ rest) ≡ words_with verb (front ++ b ∷ a ∷ rest)
    go true e = words_with-different verb front a b rest (different front a b rest e)
    go false e =
        let twice = are_options_of-twice verb (front ++ a ∷ b ∷ rest) e in
        let also = are_options_of-twice verb (front ++ b ∷ a ∷ rest)
        (sym (stand_once-exchanged front a b rest) ∙ e) in
        rw (twice, also) refl
