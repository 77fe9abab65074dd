-- The first reason for which a line is refused.
use Rattle.std.proofs.Common.{◌≡◌, ℕ, ◌<◌, ◌≤◌, refl, arith, sym, ◌∙◌, subst, true, false, List, [], ◌∷◌, ◌++◌, length}
use Rattle.ih_journal.specs.declared.entries.Entry.{Entry}
use Rattle.ih_journal.specs.Tried.{Tried}
use Rattle.ih_tables.specs.declared.journal_refusals.Reason.{Reason}
use Rattle.ih_tables.specs.declared.journal_refusals.Reason.TheVariants.{Heading, Extra, Grammar, Place, Worker, Number, Try, Seen, Move, Price, Verdict, Early}
use Rattle.ih_journal.specs.Attempts.{is_done}
use Rattle.ih_journal.specs.Base.{Base}
use Rattle.ih_journal.specs.Grammar.{IsLineOf}
use Rattle.ih_replay.specs.Refusals.{FitsIn, IsFirstOf, IsGoing, Passes, in_order, of_entry, of_place}
use Rattle.ih_replay.proofs.Firsts.{first-behind, first-before, first-same}

module _ (b : Base) (H : List Tried) (line : List ℕ) where
  pub refused-extra : ((w : ℕ) → w < b.options.workers → is_done b.options H w ≡ true) → IsFirstOf (Passes b H line) in_order Extra
  refused-extra done = record {
    earlier = [];
    later = of_place ++ of_entry;
    listed = refl;
    passed = tt;
    fails = λ going. let ends = done going.0 going.1.0 in let goes = going.1.1 in absurd (let no : true ≡ false = sym ends ∙ goes in cc);
  }

  module _ (going : (w : ℕ) × IsGoing b H w) where
    pub refused-read : (r : Reason) → IsFirstOf (Passes b H line) of_place r → IsFirstOf (Passes b H line) in_order r
    refused-read r first = first-behind (Passes b H line) (Extra ∷ []) (of_place ++ of_entry) r (going, tt) (first-before (Passes b H line) of_place of_entry r first)

    module _ (e : Entry) (of : IsLineOf b.instance b.options (length H) e line)
        (only : (k : ℕ) (f : Entry) → IsLineOf b.instance b.options k f line → (k ≡ length H) × (f ≡ e)) where
      says : (r : Reason) → FitsIn b H (length H) e r → (k : ℕ) (f : Entry) → IsLineOf b.instance b.options k f line → FitsIn b H k f r
      says r fits k f there =
          let same = only k f there in
          subst (λ j. FitsIn b H j f r) (sym same.0) (subst (λ g. FitsIn b H (length H) g r) (sym same.1) fits)

      to : (r : Reason) → FitsIn b H (length H) e r → Passes b H line r
      to Heading fits = says Heading fits
      to Extra fits = going
      to Grammar fits = (length H, e, of)
      to Place fits = says Place fits
      to Worker fits = says Worker fits
      to Number fits = says Number fits
      to Try fits = says Try fits
      to Seen fits = says Seen fits
      to Move fits = says Move fits
      to Price fits = says Price fits
      to Verdict fits = says Verdict fits
      to Early fits = says Early fits

      fro : (r : Reason) → Passes b H line r → FitsIn b H (length H) e r
      fro Heading all = tt
      fro Extra all = tt
      fro Grammar all = tt
      fro Place all = all (length H) e of
      fro Worker all = all (length H) e of
      fro Number all = all (length H) e of
      fro Try all = all (length H) e of
      fro Seen all = all (length H) e of
      fro Move all = all (length H) e of
      fro Price all = all (length H) e of
      fro Verdict all = all (length H) e of
      fro Early all = tt

      pub refused-entry : (r : Reason) → IsFirstOf (FitsIn b H (length H) e) of_entry r → IsFirstOf (Passes b H line) in_order r
      refused-entry r first =
          first-behind (Passes b H line) (Extra ∷ of_place) of_entry r (going, ((length H, e, of), (λ k f there. (only k f there).0, tt)))
          (first-same (FitsIn b H (length H) e) (Passes b H line) of_entry r to fro first)

      pub refused-worker : b.options.workers ≤ e.worker → IsFirstOf (Passes b H line) in_order Worker
      refused-worker past = refused-entry Worker (record {
        earlier = [];
        later = Number ∷ Try ∷ Seen ∷ Move ∷ Price ∷ Verdict ∷ [];
        listed = refl;
        passed = tt;
        fails = λ goes. let known = goes.0 in absurd (omega (arith, known, past));
      })
