-- What an error that is made of clap's says of the words, and what reading words answers by clap's matches.
use Rattle.std.proofs.Common.{◌≡◌, ◌↔◌, ◌∙◌, ap, sym, refl, true, false, List, Option, Some, None, Result, Ok, Err, IfErr, option_map}
use Rattle.std.specs.Prelude.{ok_or}
use Rattle.std.specs.Result.{IsErrAnd}
use Rattle.clap.specs.Words.{App, HasKind, Row, Text, fault_of, kind_of, matches_of}
use Rattle.clap.specs.declared.error.Error.{Error}
use Rattle.clap.specs.declared.error.kind.ErrorKind.TheVariants.{OutOfMemory}
use Rattle.ih_arguments.specs.Matches.{call_by, has_no_fault}
use Rattle.ih_arguments.proofs.Faults.{fault_at}
use Rattle.ih_words.specs.SearchOptions.{IsAnswer}
use Rattle.ih_words.specs.declared.error.WordsError.{WordsError}
use Rattle.ih_words.specs.declared.error.WordsError.TheVariants.{OutOfMemory as WordsOutOfMemory, Unlawful}

-- an error that is made of clap's, and that is lack of memory exactly where clap's is, tells a fault of the words
-- otherwise
pub unlawful_at : {X : Type 0} (app : App) (words : List Text) (error : Error) (r : Result X WordsError) → HasKind (fault_of app words) error
    → IsErrAnd r (λ e. (e ≡ WordsOutOfMemory) ↔ (kind_of error ≡ OutOfMemory))
    → IfErr r (λ e. e ≡ Unlawful → has_no_fault app words ≡ false)
unlawful_at app words error (Ok v) kinds made = absurd made
unlawful_at app words error (Err e) kinds made = λ is. fault_at app words error kinds (λ memory. not_memory (made.1 memory) is)
  where
    not_memory : e ≡ WordsOutOfMemory → e ≡ Unlawful → ⊥
    not_memory m u = let bad : WordsOutOfMemory ≡ Unlawful = sym m ∙ u in cc

module _ {A B : Type 0} (call : B → A) (app : App) (lawful : List Row → Option A) (words : List Text) where
  -- words in which clap finds a fault ask for nothing
  pub refused-answer : (r : Result B WordsError) (f : WordsError) → IsErrAnd r (λ e. e ≡ f) → (f ≡ Unlawful → has_no_fault app words ≡ false)
      → IsAnswer call (call_by app lawful words) r
  refused-answer (Ok x) f made fault = absurd made
  refused-answer (Err e) f made fault = λ unlawful. rw (fault (sym made ∙ unlawful)) refl

  -- words in which it finds none ask for what is lawful of its matches
  asked : (rows : List Row) (o : Option A) → has_no_fault app words ≡ true → rows ≡ matches_of app words → o ≡ lawful rows
      → call_by app lawful words ≡ o
  asked rows o none same is = rw none (ap lawful (sym same) ∙ sym is)

  pub called-answer : (rows : List Row) (x : B) → has_no_fault app words ≡ true → rows ≡ matches_of app words → Some (call x) ≡ lawful rows
      → IsAnswer call (call_by app lawful words) (Ok x)
  called-answer rows x none same is = asked rows (Some (call x)) none same is

  pub lawful-answer : (rows : List Row) (o : Option B) → has_no_fault app words ≡ true → rows ≡ matches_of app words
      → option_map call o ≡ lawful rows → IsAnswer call (call_by app lawful words) (ok_or o Unlawful)
  lawful-answer rows (Some x) none same is = called-answer rows x none same is
  lawful-answer rows None none same is = λ e. asked rows None none same is
