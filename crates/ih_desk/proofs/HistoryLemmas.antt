-- How the history that a seat has seen goes on, from what the turn says of it.
use Rattle.std.proofs.Common.{◌≡◌, ◌≢◌, ◌∙◌, arith, ap, sym, subst, refl, ℕ, zero, suc, ◌<◌, List, [], ◌∷◌, ◌++◌, length, map, Some, None}
use Rattle.std.specs.Prelude.{slice_get, slice_index, slice_index_or, All}
use Rattle.std.proofs.lemmas.Option.{slice_get_within}
use Rattle.ih_journal.specs.Tried.{Tried}
use Rattle.ih_journal.specs.declared.entries.Verdict.{Verdict}
use Rattle.ih_journal.specs.Base.{Base}
use Rattle.ih_cellbook.specs.Offered.{Offered}
use Rattle.ih_cellbook.specs.BookState.{BookState}
use Rattle.ih_cellbook.specs.Laws.{HasNoneBy, RightOffersStayRight}
use Rattle.ih_cellbook.specs.Legal.{AreLegalButDraws}
use Rattle.ih_cellbook.specs.Offers.{IsRightOffer, entry_of}
use Rattle.ih_turn.specs.Rule.{GoesOn}
use Rattle.ih_desk.specs.Histories.{EndsWith}

-- what stands at a place
pub index-get : {X : Type 0} (es : List X) (k : ℕ) (e d : X) → slice_get es k ≡ Some e → slice_index_or es k d ≡ e
index-get [] k e d there = absurd (let no : None ≡ Some e = there in cc)
index-get (x ∷ xs) zero e d there = cc
index-get (x ∷ xs) (suc k) e d there = index-get xs k e d there

pub none_by-others : (w : ℕ) (es : List Tried) → All (λ e. e.worker ≢ w) es → HasNoneBy w es
none_by-others w es others k e there own =
    others k e (slice_get_within es k e there) (ap (λ (f : Tried). f.worker) (index-get es k e e there) ∙ own)

pub legal-none : (b : Base) (H : List Tried) → H ≡ [] → AreLegalButDraws b H
legal-none b H none = subst (AreLegalButDraws b) (sym none) (λ k e there. absurd (let no : None ≡ Some e = there in cc))

pub legal-same : (b c : Base) (H G : List Tried) → b ≡ c → H ≡ G → AreLegalButDraws b H → AreLegalButDraws c G
legal-same b c H G base same legal = subst (λ x. AreLegalButDraws x G) base (subst (AreLegalButDraws b) same legal)

-- What was lent out, to whom: all that the two lemmas below know of it.
module _ (c : Base) (o : Offered) (n : ℕ) (seen : List Tried) (taken lent : BookState) (value : lent ≡ taken) (base : taken.base ≡ c)
    (own : o.worker ≡ n) (begins : GoesOn (λ e. e.worker) n seen taken.entries) where
  lent-base : lent.base ≡ c
  lent-base = ap (λ (k : BookState). k.base) value ∙ base

  -- it begins with what the seat had seen, and past that has nothing by the offer's worker
  lent-goes_on : GoesOn (λ e. e.worker) o.worker seen lent.entries
  lent-goes_on =
      subst (λ (k : BookState). GoesOn (λ e. e.worker) o.worker seen k.entries) (sym value) (subst (λ w. GoesOn (λ e. e.worker) w seen taken.entries) (sym own) begins)

  -- an offer that is right for what the seat has seen is right for the book
  pub right-lent : RightOffersStayRight → IsRightOffer c seen o → IsRightOffer lent.base lent.entries o
  right-lent stays right =
      let goes = lent-goes_on in
      subst (λ x. IsRightOffer x lent.entries o) (sym lent-base)
      (subst (λ G. IsRightOffer c G o) (sym goes.history) (stays c seen goes.others o right (none_by-others o.worker goes.others goes.none)))

  -- the book's history with the entry of the offer
  pub ends-lent : (v : Verdict) (G : List Tried) → G ≡ lent.entries ++ entry_of lent.base lent.entries o v ∷ [] → EndsWith c o v seen G
  ends-lent v G grown =
      let goes = lent-goes_on in
      record {
        others = goes.others;
        history = grown ∙ (ap (λ x. lent.entries ++ entry_of x lent.entries o v ∷ []) lent-base ∙ ap (λ F. F ++ entry_of c F o v ∷ []) goes.history);
        none = none_by-others o.worker goes.others goes.none;
      }

pub index-map : {X : Type 0} (f : X → ℕ) (xs : List X) (k : ℕ) (d : X) → k < length xs → slice_index (map f xs) k ≡ f (slice_index_or xs k d)
index-map f [] k d l = absurd (omega arith)
index-map f (x ∷ xs) zero d l = refl
index-map f (x ∷ xs) (suc k) d l = index-map f xs k d (omega arith)
