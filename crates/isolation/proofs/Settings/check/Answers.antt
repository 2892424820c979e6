-- `isolation::Settings::check` meets its contract: each return goes by the tests that led there.
-- Assumes nothing.
use Rattle.std.proofs.Common.{refl, arith}
use Rattle.std.proofs.lemmas.Bool.{lt-ltb, le-ltb}
use Rattle.model.specs.Calls.{refuse}
use Rattle.isolation.specs.Numbers.{FactorFits}
use Rattle.isolation.proofs.Notions.{settings-back}
use Rattle.isolation.proofs.Refusals.{settings_by, out-of-range, in-range}
use Rattle.isolation.proofs.Settings.check.Goals as goal

pub returns-then-self-gt2-clause-refused : goal.returns-then-self-gt2-clause-refused
unfolding refuse
returns-then-self-gt2-clause-refused c = settings_by _ (lt-ltb 2 _ c.if-self-gt2.true) refl refl

pub returns-then-self-gt1-clause-refused : goal.returns-then-self-gt1-clause-refused
unfolding refuse
returns-then-self-gt1-clause-refused c = settings_by _ (le-ltb 2 _ c.if-self-gt2.false) (lt-ltb 1 _ c.if-self-gt1.true) refl

pub returns-then-self-eq0-clause-refused : goal.returns-then-self-eq0-clause-refused
unfolding refuse
returns-then-self-eq0-clause-refused c =
    settings_by _ (le-ltb 2 _ c.if-self-gt2.false) (le-ltb 1 _ c.if-self-gt1.false) (out-of-range c.then-self-eq0.either)

pub returns-clause-refused : goal.returns-clause-refused
unfolding refuse
returns-clause-refused c =
    settings_by _ (le-ltb 2 _ c.if-self-gt2.false) (le-ltb 1 _ c.if-self-gt1.false)
    (in-range c.if-self-eq0.false c.if-self-gt-LARGEST_FACTOR.false)

pub criterion-requires : goal.criterion-requires
unfolding FactorFits
criterion-requires c = omega (arith, c.if-self-gt-LARGEST_FACTOR.false)

pub returns-clause-held : goal.returns-clause-held
returns-clause-held c = settings-back c.args.self _ c.criterion.ensures (omega (arith, c.if-self-gt2.false)) (omega (arith, c.if-self-gt1.false))
