-- What an answer of clap says of the faults in the words.
use Rattle.std.proofs.Common.{◌≡◌, ◌≢◌, true, false, List, [], ◌∷◌, refl, arith, inl, inr}
use Rattle.std.proofs.lemmas.Bool.{and_parts, ne_eqb}
use Rattle.clap.specs.Words.{App, HasKind, Kinds, Text, fault_of, is_simple, is_simple_and_free, kind_of}
use Rattle.clap.specs.Walk.{is_empty}
use Rattle.clap.specs.declared.error.Error.{Error}
use Rattle.clap.specs.declared.error.kind.ErrorKind.TheVariants.{OutOfMemory}
use Rattle.ih_arguments.specs.Matches.{has_no_fault}

-- words with no kind of fault have no fault
pub no_fault_at : (app : App) (words : List Text) → fault_of app words ≡ [] → has_no_fault app words ≡ true
unfolding has_no_fault
no_fault_at app words none = rw none refl

not_empty : (kinds : Kinds) (e : Error) → HasKind kinds e → kind_of e ≢ OutOfMemory → is_empty kinds ≡ false
not_empty [] e (inl memory) other = absurd (other memory)
not_empty [] e (inr among) other = absurd among
not_empty (k ∷ ks) e h other = ne_eqb _ _ (λ e. omega arith)

-- an error that isn't lack of memory is a fault of the words
pub fault_at : (app : App) (words : List Text) (e : Error) → HasKind (fault_of app words) e → kind_of e ≢ OutOfMemory
    → has_no_fault app words ≡ false
unfolding has_no_fault
fault_at app words e h other = not_empty (fault_of app words) e h other

-- an app that is simple and free is simple
pub simple_of : (app : App) → is_simple_and_free app ≡ true → is_simple app ≡ true
simple_of app h = (and_parts (is_simple app) _ h).0
