-- Why a read gave nothing: what is known of one file, said of all that a call reads.
use Rattle.std.proofs.Common.{◌≡◌, ◌≤◌, ◌∙◌, ℕ, List, Option, ap, arith, subst, sym}
use Rattle.std.specs.Prelude.{IfErr, Result, Ok, Err}
use Rattle.ih_tables.specs.declared.drafts.Draft.{Draft}
use Rattle.ih_shelf.specs.Outside.{Names, Rose}
use Rattle.ih_shelf.specs.declared.outside.Shelf.{Ghosts as ShelfGhosts}
use Rattle.ih_inputs.specs.declared.error.InputError.{InputError}
use Rattle.ih_inputs.specs.declared.error.InputError.TheVariants.{ReadFault}
use Rattle.ih_inputs.specs.declared.error.InputRole.{InputRole}
use Rattle.ih_inputs.specs.Errors.{HasFailed, HasNamedCause, HasOnlyRead}
use Rattle.ih_inputs.specs.Reading.{HasReadCause, InputFiles, IsNoInstance, IsNoPlan, name_in}

-- a count that rose later rose from before too
pub rose-from : (before mid now : ℕ) → before ≤ mid → Rose mid now → Rose before now
rose-from before mid now le rose = omega arith

module _ {X : Type 0} (shelf : ShelfGhosts X) where
  pub only-then : (old mid new : X) → HasOnlyRead shelf old mid → HasOnlyRead shelf mid new → HasOnlyRead shelf old new
  only-then old mid new one other = record {
    count = let first = one.count in let second = other.count in omega (arith, first, second);
    other_count = other.other_count ∙ one.other_count;
    kept = other.kept ∙ one.kept;
  }

  module _ (r : InputFiles) (old new : X) where
    -- a read that failed behind other reads
    pub cause-from : (before : X) → HasOnlyRead shelf before old → (e : InputError) → HasReadCause shelf r old new e → HasReadCause shelf r before new e
    cause-from before only (ReadFault role) h = record {
      before = h.before;
      only = only-then before old h.before only h.only;
      failed = h.failed;
      rose = rose-from (shelf.read_faults before) (shelf.read_faults old) (shelf.read_faults new) only.count h.rose;
    }
    cause-from before only e h = tt

    module _ (role : InputRole) (name : List ℕ) (is : name_in r role ≡ name) where
      pub role-cause : (of : InputRole) → of ≡ role → HasNamedCause shelf name old new (ReadFault of) → HasReadCause shelf r old new (ReadFault of)
      role-cause of same h = subst (λ n. HasFailed shelf n old new) (sym (ap (name_in r) same ∙ is)) h

      pub plan-error : (files : Option Names) (I : Draft) (e : InputError) → IsNoPlan role files name I e → HasNamedCause shelf name old new e
          → HasReadCause shelf r old new e
      plan-error files I (ReadFault of) same h = role-cause of same h
      plan-error files I e none h = tt

      pub instance-error : (files : Option Names) (e : InputError) → IsNoInstance role files name e → HasNamedCause shelf name old new e → HasReadCause shelf r old new e
      instance-error files (ReadFault of) same h = role-cause of same h
      instance-error files e none h = tt

      pub plan-cause : {T : Type 0} (files : Option Names) (I : Draft) (result : Result T InputError) → IfErr result (IsNoPlan role files name I)
          → IfErr result (HasNamedCause shelf name old new) → IfErr result (HasReadCause shelf r old new)
      plan-cause files I (Ok x) none h = tt
      plan-cause files I (Err e) none h = plan-error files I e none h

      pub instance-cause : {T : Type 0} (files : Option Names) (result : Result T InputError) → IfErr result (IsNoInstance role files name)
          → IfErr result (HasNamedCause shelf name old new) → IfErr result (HasReadCause shelf r old new)
      instance-cause files (Ok x) none h = tt
      instance-cause files (Err e) none h = instance-error files e none h
