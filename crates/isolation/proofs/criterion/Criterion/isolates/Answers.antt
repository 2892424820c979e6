-- `isolation::Criterion::isolates` meets its contract: a test for each notion.
-- Assumes nothing.
use Rattle.std.proofs.Common.{refl}
use Rattle.isolation.proofs.Notions.{isolated_min_lem, isolated_avg_lem, isolated_max_lem}
use Rattle.isolation.proofs.criterion.Criterion.isolates.Goals as goal

pub returns-in-Min : goal.returns-in-Min
returns-in-Min c =
    isolated_min_lem _ _ _ _ _ _ (rw c.in-Min.is refl) c.saturating_sub-others.ensures c.saturating_sub.ensures c.within.ensures

pub returns-in-Avg : goal.returns-in-Avg
returns-in-Avg c =
    isolated_avg_lem _ _ _ _ _ _ (rw c.in-Avg.is refl) c.outgoing.ensures c.within-in-Avg.ensures

pub returns-in-Max : goal.returns-in-Max
returns-in-Max c =
    isolated_max_lem _ _ _ _ _ _ (rw c.in-Max.is (λ e. cc e)) (rw c.in-Max.is (λ e. cc e)) c.saturating_sub-others.ensures c.saturating_sub-in-Max.ensures
    c.within-in-Max.ensures
