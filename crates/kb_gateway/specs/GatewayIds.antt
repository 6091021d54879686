-- The id by which a gateway knows a payment: a UUID of version 5, made of a name in the namespace of URLs,
-- 6ba7b811-9dad-11d1-80b4-00c04fd430c8.
use Rattle.std.specs.Prelude.{ℕ, List, [], ◌∷◌, ◌++◌, take, codes, ◌≡◌, refl}
use Rattle.uuid.specs.Parts.{with_version, with_variant}
use Rattle.uuid.specs.Uuid.{namespace_url}
use Rattle.uuid.specs.declared.Version.TheVariants.{Sha1}
use Rattle.uuid.specs.declared.Variant.TheVariants.{RFC4122}
use Rattle.sha1.specs.Sha1.{first_words, schedule, rounds, compress, hash_after, digest_bytes, sha1}

-- the UUID of a text, as its 16 bytes
unfoldable pub uuid_of : List ℕ → List ℕ
uuid_of text = with_version (with_variant (take 16 (sha1 (namespace_url ++ text))) RFC4122) Sha1

-- the text by which a payment of an account is named
abbrev pub payment_text : List ℕ → List ℕ → List ℕ
payment_text account key = codes "kb:payment:" ++ account ++ codes ":" ++ key

text_of_p1 : payment_text (codes "a1") (codes "p1") ≡ codes "kb:payment:a1:p1"
text_of_p1 = refl

-- 419057e9-e213-5cbe-8f20-63536fe96a2c
id_of_p1 : uuid_of (payment_text (codes "a1") (codes "p1")) ≡ 65 ∷ 144 ∷ 87 ∷ 233 ∷ 226 ∷ 19 ∷ 92 ∷ 190
    ∷ 143 ∷ 32 ∷ 99 ∷ 83 ∷ 111 ∷ 233 ∷ 106 ∷ 44 ∷ []
unfolding first_words schedule rounds compress hash_after digest_bytes sha1 uuid_of
id_of_p1 = refl
