-- What reading the words of a command answers.
use Rattle.std.proofs.Common.{◌≡◌, ◌∙◌, ap, subst, sym, refl, inl, inr, true, false, List, Option, None}
use Rattle.std.specs.Prelude.{◌≢◌}
use Rattle.clap.specs.Words.{App, HasKind, IsAmong, Row, Text, fault_of, kind_of, matches_of}
use Rattle.clap.specs.declared.error.Error.{Error}
use Rattle.clap.specs.declared.error.kind.ErrorKind.{ErrorKind}
use Rattle.clap.specs.declared.error.kind.ErrorKind.TheVariants.{DisplayHelp, OutOfMemory as ClapOutOfMemory}
use Rattle.ih_arguments.specs.Matches.{call_by, has_no_fault}
use Rattle.ih_arguments.proofs.Faults.{fault_at}
use Rattle.ih_arguments.specs.Explaining.{IsExplained, IsExplainedAs, IsNoHelp}
use Rattle.ih_arguments.specs.declared.explaining.NoCall.{NoCall}
use Rattle.ih_arguments.specs.declared.explaining.NoCall.TheVariants.{Help, OutOfMemory, Refused}

module _ (app : App) (words : List Text) where
  -- an error that is said is one that clap may have found
  pub explained-as : (error : Error) (n : NoCall) → HasKind (fault_of app words) error → IsExplainedAs (kind_of error) n → IsExplained app words n
  explained-as error (Help text) (inl memory) is = absurd (let clash : DisplayHelp ≡ ClapOutOfMemory = sym is ∙ memory in cc)
  explained-as error (Help text) (inr among) is = subst (λ (k : ErrorKind). IsAmong k (fault_of app words)) is among
  explained-as error (Refused text) (inl memory) is = absurd (is.1 memory)
  explained-as error (Refused text) (inr among) is = inr (kind_of error, is.0, among)
  explained-as error OutOfMemory kinds is = tt

  -- so is what is said where it finds none
  pub refused-as : (n : NoCall) → IsNoHelp n → has_no_fault app words ≡ true → IsExplained app words n
  refused-as (Help text) is none = absurd is
  refused-as (Refused text) is none = inl none
  refused-as OutOfMemory is none = tt

  module _ (A : Type 0) (lawful : List Row → Option A) where
    -- words in which clap finds no fault ask for what is lawful of its matches
    pub asked-matches : (rows : List Row) (o : Option A) → has_no_fault app words ≡ true → rows ≡ matches_of app words → o ≡ lawful rows
        → call_by app lawful words ≡ o
    asked-matches rows o none same is = rw none (ap lawful (sym same) ∙ sym is)

    asked-none : has_no_fault app words ≡ false → call_by app lawful words ≡ None
    asked-none fault = rw fault refl

    -- an error that isn't lack of memory
    not-memory : (error : Error) (n : NoCall) → IsExplainedAs (kind_of error) n → n ≢ OutOfMemory → kind_of error ≢ ClapOutOfMemory
    not-memory error (Help text) is other = λ memory. let clash : DisplayHelp ≡ ClapOutOfMemory = sym is ∙ memory in cc
    not-memory error (Refused text) is other = is.1
    not-memory error OutOfMemory is other = absurd (other refl)

    -- where clap's error is said, the words ask for nothing
    pub explained-read : (error : Error) (n : NoCall) → HasKind (fault_of app words) error → IsExplainedAs (kind_of error) n
        → (n ≢ OutOfMemory → call_by app lawful words ≡ None) × IsExplained app words n
    explained-read error n kinds is =
        (λ other. asked-none (fault_at app words error kinds (not-memory error n is other)), explained-as error n kinds is)

    -- and where its matches aren't lawful
    pub refused-read : (n : NoCall) (rows : List Row) → IsNoHelp n → has_no_fault app words ≡ true → rows ≡ matches_of app words
        → None ≡ lawful rows → (n ≢ OutOfMemory → call_by app lawful words ≡ None) × IsExplained app words n
    refused-read n rows is none same lacks = (λ other. asked-matches rows None none same lacks, refused-as n is none)

    -- and where memory ran out
    pub memory-read : (n : NoCall) → n ≡ OutOfMemory → (n ≢ OutOfMemory → call_by app lawful words ≡ None) × IsExplained app words n
    memory-read n is = (λ other. absurd (other is), rw is tt)
