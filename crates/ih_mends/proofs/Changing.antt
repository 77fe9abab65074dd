-- The best replacements of choices, with one choice more.
use Rattle.std.proofs.Common.{◌≡◌, ℕ, ◌+◌, sym, ◌∙◌, ap, List, [], ◌∷◌, ◌++◌, map, take}
use Rattle.std.specs.Prelude.{Some, slice_get}
use Rattle.std.proofs.lemmas.List.{map-append}
use Rattle.std.proofs.lemmas.List.Elements.{All-push, All-same}
use Rattle.ih_tables.specs.declared.drafts.Draft.{Draft}
use Rattle.ih_plan.specs.declared.limits.TheConstants.{MAX_HARD}
use Rattle.ih_plan.specs.Timetable.{Timetable}
use Rattle.ih_plan.specs.Writes.{IsWriteOf}
use Rattle.ih_fill.specs.declared.candidates.Candidate.{Candidate}
use Rattle.ih_fill.specs.declared.choices.Choice.{Choice}
use Rattle.ih_replacements.specs.Replacements.{best_of}
use Rattle.ih_mends.specs.Changes.{AreBestChanges}
use Rattle.ih_mends.proofs.Keeping.{take-next}

pub changes-more : (I : Draft) (P : Timetable) (hard : ℕ) (cs : List Choice) (k : ℕ) (choice : Choice) (before after : List Candidate) (c : Candidate)
    → hard ≡ MAX_HARD → AreBestChanges I P (take k cs) before → slice_get cs k ≡ Some choice → c ≡ best_of I hard P choice → IsWriteOf I c.write
    → after ≡ before ++ c ∷ [] → AreBestChanges I P (take (k + 1) cs) after
changes-more I P hard cs k choice before after c heavy so_far there is fits pushed =
    let f : Choice → Candidate = best_of I MAX_HARD P in
    let own : c ≡ f choice = is ∙ ap (λ h. best_of I h P choice) heavy in
    record {
      best = pushed
          ∙ (ap (λ xs. xs ++ c ∷ []) so_far.best
          ∙ (ap (λ (x : Candidate). map f (take k cs) ++ x ∷ []) own
          ∙ sym (ap (map f) (take-next cs k choice there) ∙ map-append f (take k cs) (choice ∷ []))));
      fit = All-same (λ (x : Candidate). IsWriteOf I x.write) after (before ++ c ∷ []) pushed
          (All-push (λ (x : Candidate). IsWriteOf I x.write) before c so_far.fit fits);
    }
