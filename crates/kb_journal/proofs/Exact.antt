-- Bytes stand for one list of records, or show at one place that they are no journal.
use Rattle.std.proofs.Common.{ℕ, true, false, ◌≡◌, ◌+◌, ◌≤◌, ◌<◌, ◌^◌, ◌⊎◌, List, [], ◌∷◌, ◌++◌, length, take}
use Rattle.std.proofs.Common.{drop, refl, sym, ◌∙◌, ap, subst, inl, inr, arith, append_assoc, length-append}
use Rattle.std.proofs.lemmas.List.{take_at, drop_at}
use Rattle.std.proofs.lemmas.Nat.{from_be_bytes-to_be_bytes_2, from_be_bytes-to_be_bytes_4}
use Rattle.kb_journal.specs.Format.{framed, blocks, body, IsSized, AreSized, IsClosed, StandsFor}
use Rattle.kb_journal.specs.Reading.{number_at, told_size, zeros, Begins, IsHeaderFault, IsCutShort, IsCutAt}
use Rattle.kb_journal.specs.Reading.{IsNoJournal}

-- a record tells its length
pub told_framed : (one rest : List ℕ) → IsSized one → told_size (framed one ++ rest) ≡ length one
told_framed one rest sized = from_be_bytes-to_be_bytes_4 (length one) (omega (arith, sized.few))

-- a whole record with something behind it isn't cut short
not_cut : (one rest : List ℕ) → IsSized one → 1 ≤ length rest → IsCutShort (framed one ++ rest) → ⊥
not_cut one rest sized some cut =
    let told : told_size (framed one ++ rest) ≡ length one = told_framed one rest sized in
    let long : length (framed one ++ rest) ≡ 4 + length one + length rest =
    omega (arith, length-append one rest) in
    elim cut [
      | inl short ↦ omega (arith, short, long)
      | inr wrong ↦ elim wrong [
        | inl none ↦ omega (arith, none, told, sized.some)
        | inr long_or_cut ↦ elim long_or_cut [
          | inl many ↦ omega (arith, many, told, sized.few)
          | inr behind ↦ omega (arith, behind, told, long, some)
        ]
      ]
    ]

-- a record is told from what follows it
record Apart (a b x y : List ℕ) : Type 0 where
  one : a ≡ b
  rest : x ≡ y

same_framed : (a b x y : List ℕ) → IsSized a → IsSized b → framed a ++ x ≡ framed b ++ y → Apart a b x y
same_framed a b x y sized_a sized_b same =
    let long : length a ≡ length b =
    sym (told_framed a x sized_a) ∙ ap told_size same ∙ told_framed b y sized_b in
    let behind : a ++ x ≡ b ++ y = ap (λ (l : List ℕ). drop 4 l) same in
    record {
      one = sym (take_at a x (length a) refl) ∙ ap (λ (l : List ℕ). take (length a) l) behind
          ∙ take_at b y (length a) (sym long);
      rest = sym (drop_at a x (length a) refl) ∙ ap (λ (l : List ℕ). drop (length a) l) behind
          ∙ drop_at b y (length a) (sym long);
    }

-- records end at a closed gate, or at an open one behind which the next is cut short
abbrev Stops : ℕ → List ℕ → Type 0
Stops gate rest = IsClosed gate ⊎ ((gate ≡ 1) × IsCutShort rest)

-- they don't end at a gate with a whole record behind it
goes_on : (one more : List ℕ) (gate other : ℕ) (rest free : List ℕ) → IsSized one
    → gate ∷ rest ≡ (1 ∷ (framed one ++ more)) ++ (other ∷ free) → Stops gate rest → ⊥
goes_on one more gate other rest free sized same stops =
    let is_open : gate ≡ 1 = cc in
    let whole : rest ≡ (framed one ++ more) ++ (other ∷ free) = cc in
    let parts : rest ≡ framed one ++ (more ++ (other ∷ free)) = whole
    ∙ append_assoc (framed one) more (other ∷ free) in
    let some : 1 ≤ length (more ++ (other ∷ free)) = omega (arith, length-append more (other ∷ free)) in
    let Closed : ℕ → Type 0 = IsClosed in
    elim stops [
      | inl closed ↦ let shut : true ≡ false = subst Closed is_open closed in cc
      | inr cut ↦ not_cut one (more ++ (other ∷ free)) sized some (subst IsCutShort parts cut.1)
    ]

record SameRecords (a b : List (List ℕ)) (g h : ℕ) : Type 0 where
  all : a ≡ b
  gate : g ≡ h

same_records : (a b : List (List ℕ)) (g h : ℕ) (x y : List ℕ) → AreSized a → AreSized b
    → blocks a ++ (g ∷ x) ≡ blocks b ++ (h ∷ y) → Stops g x → Stops h y → SameRecords a b g h
unfolding blocks
same_records [] [] g h x y sized_a sized_b same stops_a stops_b = record { all = refl; gate = cc }
same_records [] (b ∷ bs) g h x y sized_a sized_b same stops_a stops_b =
    absurd (goes_on b (blocks bs) g h x y sized_b.0 same stops_a)
same_records (a ∷ as_) [] g h x y sized_a sized_b same stops_a stops_b =
    absurd (goes_on a (blocks as_) h g y x sized_a.0 (sym same) stops_b)
same_records (a ∷ as_) (b ∷ bs) g h x y sized_a sized_b same stops_a stops_b =
    let behind : framed a ++ (blocks as_ ++ (g ∷ x)) ≡ framed b ++ (blocks bs ++ (h ∷ y)) =
    sym (append_assoc (framed a) (blocks as_) (g ∷ x)) ∙ ap (λ (l : List ℕ). drop 1 l) same
    ∙ append_assoc (framed b) (blocks bs) (h ∷ y) in
    let apart : Apart a b (blocks as_ ++ (g ∷ x)) (blocks bs ++ (h ∷ y)) =
    same_framed a b _ _ sized_a.0 sized_b.0 behind in
    let others : SameRecords as_ bs g h = same_records as_ bs g h x y sized_a.1 sized_b.1 apart.rest stops_a
    stops_b in
    let one : a ≡ b = apart.one in
    let all : as_ ≡ bs = others.all in
    record { all = cc; gate = others.gate }

-- What bytes tell that begin with a header.
record HasHeader (lanes lane : ℕ) (bytes : List ℕ) : Type 0 where
  begins : Begins bytes
  told_lanes : number_at 8 bytes ≡ lanes
  told_lane : number_at 10 bytes ≡ lane
  none : take 4 (drop 12 bytes) ≡ zeros

has_header : (lanes lane gate : ℕ) (records : List (List ℕ)) (free bytes : List ℕ) → lanes ≤ 64
    → lane < 2 ^ 16
    → bytes ≡ body lanes lane records ++ (gate ∷ free) → HasHeader lanes lane bytes
has_header lanes lane gate records free bytes few fits parts = record {
  begins = record {
    long = omega (arith, ap length parts, length-append (blocks records) (gate ∷ free));
    letters = ap (λ (l : List ℕ). take 8 l) parts;
  };
  told_lanes = ap (λ (l : List ℕ). number_at 8 l) parts ∙ from_be_bytes-to_be_bytes_2 lanes (omega arith);
  told_lane = ap (λ (l : List ℕ). number_at 10 l) parts ∙ from_be_bytes-to_be_bytes_2 lane fits;
  none = ap (λ (l : List ℕ). take 4 (drop 12 l)) parts;
}

-- such bytes have no fault in their header
no_header_fault : (lanes lane at : ℕ) (bytes : List ℕ) → 1 ≤ lanes → lanes ≤ 64 → HasHeader lanes lane bytes
    → IsHeaderFault lane bytes at → ⊥
no_header_fault lanes lane at bytes some few has (inl fault) = fault.1 has.begins
no_header_fault lanes lane at bytes some few has (inr (inl fault)) =
    fault.2 (omega (arith, has.told_lanes), omega (arith, has.told_lanes))
no_header_fault lanes lane at bytes some few has (inr (inr (inl fault))) = fault.3 has.told_lane
no_header_fault lanes lane at bytes some few has (inr (inr (inr fault))) = fault.4 has.none

-- a header has one first fault
one_header_fault : (lane : ℕ) (bytes : List ℕ) (a b : ℕ) → IsHeaderFault lane bytes a
    → IsHeaderFault lane bytes b → a ≡ b
one_header_fault lane bytes a b (inl p) (inl q) = p.0 ∙ sym q.0
one_header_fault lane bytes a b (inl p) (inr (inl q)) = absurd (p.1 q.1)
one_header_fault lane bytes a b (inl p) (inr (inr (inl q))) = absurd (p.1 q.1)
one_header_fault lane bytes a b (inl p) (inr (inr (inr q))) = absurd (p.1 q.1)
one_header_fault lane bytes a b (inr (inl p)) (inl q) = absurd (q.1 p.1)
one_header_fault lane bytes a b (inr (inl p)) (inr (inl q)) = p.0 ∙ sym q.0
one_header_fault lane bytes a b (inr (inl p)) (inr (inr (inl q))) = absurd (p.2 q.2)
one_header_fault lane bytes a b (inr (inl p)) (inr (inr (inr q))) = absurd (p.2 q.2)
one_header_fault lane bytes a b (inr (inr (inl p))) (inl q) = absurd (q.1 p.1)
one_header_fault lane bytes a b (inr (inr (inl p))) (inr (inl q)) = absurd (q.2 p.2)
one_header_fault lane bytes a b (inr (inr (inl p))) (inr (inr (inl q))) = p.0 ∙ sym q.0
one_header_fault lane bytes a b (inr (inr (inl p))) (inr (inr (inr q))) = absurd (p.3 q.3)
one_header_fault lane bytes a b (inr (inr (inr p))) (inl q) = absurd (q.1 p.1)
one_header_fault lane bytes a b (inr (inr (inr p))) (inr (inl q)) = absurd (q.2 p.2)
one_header_fault lane bytes a b (inr (inr (inr p))) (inr (inr (inl q))) = absurd (q.3 p.3)
one_header_fault lane bytes a b (inr (inr (inr p))) (inr (inr (inr q))) = p.0 ∙ sym q.0

-- a record that is cut short stands behind a header
cut_has_header : (lane at : ℕ) (bytes : List ℕ) → lane < 2 ^ 16
    → (cut : IsCutAt (number_at 8 bytes) lane bytes at)
    → HasHeader (number_at 8 bytes) lane bytes
cut_has_header lane at bytes fits cut =
    has_header (number_at 8 bytes) lane 1 cut.records cut.rest bytes cut.few_lanes fits cut.parts

-- bytes that stand for some records are a journal
pub not_both : (lanes lane : ℕ) (records : List (List ℕ)) (bytes : List ℕ) → 1 ≤ lanes → lanes ≤ 64
    → lane < 2 ^ 16
    → StandsFor lanes lane records bytes → (at : ℕ) → IsNoJournal lane bytes at → ⊥
not_both lanes lane records bytes some few fits stands at (inl fault) =
    no_header_fault lanes lane at bytes some few
    (has_header lanes lane stands.gate records stands.free bytes few fits stands.parts) fault
not_both lanes lane records bytes some few fits stands at (inr cut) =
    let Closed : ℕ → Type 0 = IsClosed in
    let same : blocks records ++ (stands.gate ∷ stands.free) ≡ blocks cut.records ++ (1 ∷ cut.rest) =
    ap (λ (l : List ℕ). drop 16 l) (sym stands.parts ∙ cut.parts) in
    let gates : SameRecords records cut.records stands.gate 1 =
    same_records records cut.records stands.gate 1 stands.free cut.rest stands.sized cut.sized same
    (inl stands.closed) (inr (refl, cut.cut)) in
    let shut : true ≡ false = subst Closed gates.gate stands.closed in cc

-- bytes show at one place that they are no journal
pub one_place : (lane : ℕ) (bytes : List ℕ) → lane < 2 ^ 16 → (a b : ℕ) → IsNoJournal lane bytes a
    → IsNoJournal lane bytes b
    → a ≡ b
one_place lane bytes fits a b (inl p) (inl q) = one_header_fault lane bytes a b p q
one_place lane bytes fits a b (inl p) (inr q) = absurd
    (no_header_fault (number_at 8 bytes) lane a bytes q.some_lanes q.few_lanes
    (cut_has_header lane b bytes fits q) p)
one_place lane bytes fits a b (inr p) (inl q) = absurd
    (no_header_fault (number_at 8 bytes) lane b bytes p.some_lanes p.few_lanes
    (cut_has_header lane a bytes fits p) q)
one_place lane bytes fits a b (inr p) (inr q) =
    let same : blocks p.records ++ (1 ∷ p.rest) ≡ blocks q.records ++ (1 ∷ q.rest) =
    ap (λ (l : List ℕ). drop 16 l) (sym p.parts ∙ q.parts) in
    let both : SameRecords p.records q.records 1 1 =
    same_records p.records q.records 1 1 p.rest q.rest p.sized q.sized same (inr (refl, p.cut))
    (inr (refl, q.cut)) in
    p.place ∙ ap (λ (records : List (List ℕ)). length (body (number_at 8 bytes) lane records)) both.all
    ∙ sym q.place
