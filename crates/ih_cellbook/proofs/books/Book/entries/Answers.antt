use Rattle.std.proofs.Common.{subst, ℕ}
use Rattle.ih_journal.specs.Frozen.{AgreesBefore}
use Rattle.ih_journal.specs.History.{plan_at}
use Rattle.ih_cellbook.proofs.Agreeing.{legal-agrees}
use Rattle.ih_cellbook.specs.BookState.{BookState}
use Rattle.ih_cellbook.specs.Laws.{AreFew}
use Rattle.ih_cellbook.specs.Legal.{AreExact, AreLegalButDraws}
use Rattle.ih_cellbook.proofs.ExactPrices.{prices-exact}
use Rattle.ih_cellbook.proofs.EntryLimits.{legal-few}
use Rattle.ih_cellbook.proofs.books.Book.entries.Goals as goal

pub returns-clause-legal : goal.returns-clause-legal
returns-clause-legal g c = subst (λ (v : BookState). AreLegalButDraws v.base v.entries) c.self.view_is c.self.invariant.0.legal

pub returns-clause-few : goal.returns-clause-few
returns-clause-few g c = subst (λ (v : BookState). AreFew v.base v.entries) c.self.view_is (legal-few _ _ c.self.invariant.0.legal)

pub returns-clause-agrees : goal.returns-clause-agrees
returns-clause-agrees g c = subst (λ (v : BookState). (k : ℕ) → AgreesBefore v.base (plan_at v.base v.entries k)) c.self.view_is
    (legal-agrees _ _ c.self.invariant.0.base.start c.self.invariant.0.legal)

pub returns-clause-exact : goal.returns-clause-exact
returns-clause-exact g c = subst (λ (v : BookState). AreExact v.base v.entries) c.self.view_is (prices-exact _ _ c.self.invariant.0.base.start c.self.invariant.0.legal)
