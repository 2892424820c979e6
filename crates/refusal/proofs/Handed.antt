-- What the exit of a `?` hands on, and that no refusal has the number of an acceptance.
-- Assumes nothing.
use Rattle.std.proofs.Common.{ℕ, ◌≡◌, ◌∙◌, ap, Result, arith}
use Rattle.std.specs.Result.{IsErrAnd}
use Rattle.std.proofs.lemmas.Result.{err_from_is_err_and}
use Rattle.refusal.specs.declared.Refusal.{Refusal}
use Rattle.refusal.specs.declared.Refusal.TheVariants.{TooManyVertices, TableLength, TableByte, SelfJoined, OneWay, Notion, Kind, Factor, BytesLength, WorkLength, SetByte, PositionByte, Gap, DeadPosition, FirstLetter, Form, NoProblemLine, SecondProblemLine, TextVertices, EdgeRange, EdgeLoop, EdgeCount, TableRoom, TextLength, Degrees, PairRange, PairEqual, StrayBit}
use Rattle.refusal.specs.Numbers.{number, fault}

-- the exit of a `?` hands on the refusal that it met
pub fault-met : {A : Type 0} (q : Result A Refusal) (r : Refusal) → IsErrAnd q (λ e. e ≡ r) → fault q ≡ number r
fault-met q r e =
    let p = err_from_is_err_and q e in
    ap fault p.1 ∙ ap number p.2

-- no refusal has the number 0
pub number-some : (r : Refusal) → number r ≡ 0 → ⊥
number-some TooManyVertices e = omega arith
number-some TableLength e = omega arith
number-some TableByte e = omega arith
number-some SelfJoined e = omega arith
number-some OneWay e = omega arith
number-some Notion e = omega arith
number-some Kind e = omega arith
number-some Factor e = omega arith
number-some BytesLength e = omega arith
number-some WorkLength e = omega arith
number-some SetByte e = omega arith
number-some PositionByte e = omega arith
number-some Gap e = omega arith
number-some DeadPosition e = omega arith
number-some FirstLetter e = omega arith
number-some Form e = omega arith
number-some NoProblemLine e = omega arith
number-some SecondProblemLine e = omega arith
number-some TextVertices e = omega arith
number-some EdgeRange e = omega arith
number-some EdgeLoop e = omega arith
number-some EdgeCount e = omega arith
number-some TableRoom e = omega arith
number-some TextLength e = omega arith
number-some Degrees e = omega arith
number-some PairRange e = omega arith
number-some PairEqual e = omega arith
number-some StrayBit e = omega arith
