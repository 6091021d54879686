-- Which lane an account belongs to: its UUID as a number, modulo the number of lanes.
use Rattle.std.specs.Prelude.{ℕ, List, [], ◌∷◌, ◌++◌, ◌%◌, codes, ◌≡◌, refl}
use Rattle.std.specs.Int.{w128, from_be_bytes}
use Rattle.kb_gateway.specs.GatewayIds.{uuid_of}
use Rattle.sha1.specs.Sha1.{first_words, schedule, rounds, compress, hash_after, digest_bytes, sha1}

-- the text by which an account is named
abbrev pub account_text : List ℕ → List ℕ
account_text account = codes "kb:account:" ++ account

-- the lane of an account among so many, numbered from 0
abbrev pub lane_of : List ℕ → ℕ → ℕ
lane_of account lanes = from_be_bytes w128 (uuid_of (account_text account)) % lanes

-- 4f797321-e8b2-5385-a7d7-76291f9a772c
uuid_of_a1 : uuid_of (account_text (codes "a1")) ≡ 79 ∷ 121 ∷ 115 ∷ 33 ∷ 232 ∷ 178 ∷ 83 ∷ 133 ∷ 167 ∷ 215
    ∷ 118 ∷ 41 ∷ 31 ∷ 154 ∷ 119 ∷ 44 ∷ []
unfolding first_words schedule rounds compress hash_after digest_bytes sha1 uuid_of
uuid_of_a1 = refl

a1_among_64 : lane_of (codes "a1") 64 ≡ 44
unfolding first_words schedule rounds compress hash_after digest_bytes sha1 uuid_of
a1_among_64 = refl

m1_among_3 : lane_of (codes "m1") 3 ≡ 2
unfolding first_words schedule rounds compress hash_after digest_bytes sha1 uuid_of
m1_among_3 = refl
