-- What is said where the words of a command line name no call: help, or why they name none. No clause says their texts.
use Rattle.std.specs.Prelude.{◌≡◌, ◌≢◌, ◌⊎◌, true, List, Option, Some, None, Result, Ok, Err}
use Rattle.clap.specs.Words.{App, IsAmong, Text, fault_of}
use Rattle.clap.specs.declared.error.kind.ErrorKind.{ErrorKind}
use Rattle.clap.specs.declared.error.kind.ErrorKind.TheVariants.{DisplayHelp, OutOfMemory as ClapOutOfMemory}
use Rattle.ih_arguments.specs.Matches.{has_no_fault}
use Rattle.ih_arguments.specs.declared.explaining.NoCall.{NoCall}
use Rattle.ih_arguments.specs.declared.explaining.NoCall.TheVariants.{Help, OutOfMemory, Refused}

-- Help is among what `clap` may answer to the words.
abbrev pub MayAskForHelp : App → List Text → Type 0
MayAskForHelp app words = IsAmong DisplayHelp (fault_of app words)

-- `clap` finds no fault in the words, or something other than help is among what it may answer to them.
abbrev pub MayBeRefused : App → List Text → Type 0
MayBeRefused app words =
    (has_no_fault app words ≡ true) ⊎ ((k : ErrorKind) × (k ≢ DisplayHelp) × IsAmong k (fault_of app words))

-- what is said of an error of clap's, by its kind
abbrev pub IsExplainedAs : ErrorKind → NoCall → Type 0
IsExplainedAs kind (Help text) = kind ≡ DisplayHelp
IsExplainedAs kind (Refused text) = (kind ≢ DisplayHelp) × (kind ≢ ClapOutOfMemory)
IsExplainedAs kind OutOfMemory = Unit {0}

-- it isn't help
abbrev pub IsNoHelp : NoCall → Type 0
IsNoHelp (Help text) = ⊥
IsNoHelp other = Unit {0}

-- what is said of words that name no call
abbrev pub IsExplained : App → List Text → NoCall → Type 0
IsExplained app words (Help text) = MayAskForHelp app words
IsExplained app words (Refused text) = MayBeRefused app words
IsExplained app words OutOfMemory = Unit {0}

-- What reading words answers, by the call that they ask for and the description by which `clap` reads them: that call;
-- or what is said of them, and then, but where memory ran out, they ask for none.
abbrev pub IsRead : {A B : Type 0} → (B → A) → Option A → App → List Text → Result B NoCall → Type 0
IsRead call asked app words (Ok x) = asked ≡ Some (call x)
IsRead call asked app words (Err e) = (e ≢ OutOfMemory → asked ≡ None) × IsExplained app words e
