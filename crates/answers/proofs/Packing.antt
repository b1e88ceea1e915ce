-- What a host reads out of a packed answer is the answer.
use native.Mathlib.Omega.{arith}
use Rattle.answers.specs.declared.Answer.{Answer}
use Rattle.answers.specs.Answers.{Small, packed_answer, Unpacked}

pub unpack : (a : Answer) → Small a → Unpacked (packed_answer a) a
unfolding packed_answer
unpack a s =
    let h0 = s.number in
    let h1 = s.paper in
    let h2 = s.line in
    let h3 = s.length in
    let h4 = s.field in
    record {
      bits_0_7 = omega arith;
      bits_8_15 = omega arith;
      bits_16_31 = omega arith;
      bits_32_47 = omega arith;
      bits_48_55 = omega arith;
      bits_56_63 = omega arith;
    }
