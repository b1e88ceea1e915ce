-- The answer of the relations call as one number.
use Rattle.std.specs.Prelude.{ℕ, ◌+◌, ◌*◌, ◌/◌, ◌%◌, ◌<◌, ◌≡◌}
use Rattle.relations.specs.declared.answer.RelationsAnswer.{RelationsAnswer}

-- No number is larger than its place in the packed number.
pub record RelationsSmall (r : RelationsAnswer) : Type 0 where
  pub number : r.number < 256
  pub length : r.length < 256
  pub networks : r.networks < 256
  pub needed : r.needed < 256
  pub pairs : r.pairs < 65536
  pub joins : r.joins < 65536

-- "The returned numbers packed there into one of 64 bits: bits 0 to 7 the refusal number (0 on success), 8 to 15 the length,
-- 16 to 23 the least count, 24 to 31 the length needed, 32 to 47 the waits pairs"; and by C-23 the number of row joins, "bits 48 to 63 for the C host".
abbrev pub packed_relations : RelationsAnswer → ℕ
packed_relations r = r.number + r.length * 256 + r.networks * 65536 + r.needed * 16777216 + r.pairs * 4294967296 + r.joins * 281474976710656

-- What a host reads out of the packed number.
pub record RelationsUnpacked (k : ℕ) (r : RelationsAnswer) : Type 0 where
  pub bits_0_7 : r.number ≡ k % 256
  pub bits_8_15 : r.length ≡ k / 256 % 256
  pub bits_16_23 : r.networks ≡ k / 65536 % 256
  pub bits_24_31 : r.needed ≡ k / 16777216 % 256
  pub bits_32_47 : r.pairs ≡ k / 4294967296 % 65536
  pub bits_48_63 : r.joins ≡ k / 281474976710656 % 65536
