-- Why a solution's file gives no timetable, as why the files of a call can't be had.
use Rattle.std.proofs.Common.{◌≡◌, ℕ, List, Option, refl, subst, sym}
use Rattle.std.specs.Prelude.{◌≤◌, IfSome, Result, Err, Some, None, length}
use Rattle.ih_tables.specs.declared.drafts.Draft.{Draft}
use Rattle.ih_tables.specs.declared.refusals.Refusal.{Refusal}
use Rattle.ih_format.specs.Gives.{Gives}
use Rattle.ih_format.specs.declared.errors.FormatError.{FormatError}
use Rattle.ih_format.specs.declared.errors.FormatError.TheVariants.{Refused as FormatRefused}
use Rattle.ih_shelf.specs.Outside.{Names, bytes_at}
use Rattle.ih_shelf.specs.declared.outside.ReadError.{ReadError}
use Rattle.ih_shelf.specs.declared.outside.ReadError.TheVariants.{Fault as Unreadable, TooLong as Long, OutOfMemory as NoRoom}
use Rattle.ih_inputs.specs.Errors.{error_of_file, instance_refused_as, refused_as}
use Rattle.ih_inputs.specs.declared.reading.TheConstants.{MAX_FILE, MAX_JOURNAL}
use Rattle.ih_inputs.specs.declared.error.InputError.{InputError}
use Rattle.ih_inputs.specs.declared.error.InputError.TheVariants.{ReadFault, TooLong, OutOfMemory}
use Rattle.ih_inputs.specs.declared.error.Refused.{Refused}
use Rattle.ih_inputs.specs.declared.error.InputRole.{InputRole}
use Rattle.ih_inputs.specs.declared.error.InputRole.TheVariants.{Instance, Journal, Next, Older, Solution}
use Rattle.ih_inputs.specs.Reading.{InputFiles, IsJournalNext, IsLastNext, IsLongerThan, IsInstanceRefused, IsNext, IsNoInstance, IsNoPlan, IsOlderNext, IsRefusedBy, IsSolutionRefused, IsUnread}

module _ (files : Option Names) (r : InputFiles) (I : Draft) (name : List ℕ) where
  pub plan_unread : IsNext files r I name → (e : InputError) → IsNoPlan Solution files name I e → IsUnread files r e
  plan_unread next (ReadFault of) is = subst (λ role. IsUnread files r (ReadFault role)) (sym is) (I, name, next)
  plan_unread next (TooLong of) (is, long) = subst (λ role. IsUnread files r (TooLong role)) (sym is) (I, name, next, long)
  plan_unread next OutOfMemory h = tt
  plan_unread next error h = subst (IsUnread files r) (sym h.1) (I, name, next, h.2)

  pub older_unread : IsOlderNext files r I name → (e : InputError) → IsNoPlan Older files name I e → IsUnread files r e
  older_unread next (ReadFault of) is = subst (λ role. IsUnread files r (ReadFault role)) (sym is) (I, name, next)
  older_unread next (TooLong of) (is, long) = subst (λ role. IsUnread files r (TooLong role)) (sym is) (I, name, next, long)
  older_unread next OutOfMemory h = tt
  older_unread next error h = subst (IsUnread files r) (sym h.1) (I, name, next, h.2)

module _ (files : Option Names) (r : InputFiles) where
  pub instance_unread : (e : InputError) → IsNoInstance Instance files r.instance e → IsUnread files r e
  instance_unread (ReadFault of) is = subst (λ role. IsUnread files r (ReadFault role)) (sym is) tt
  instance_unread (TooLong of) (is, long) = subst (λ role. IsUnread files r (TooLong role)) (sym is) long
  instance_unread OutOfMemory h = tt
  instance_unread error h = subst (IsUnread files r) (sym h.1) h.2

  pub next_unread : (name : List ℕ) → IsLastNext files r name → (e : InputError) → IsNoInstance Next files name e → IsUnread files r e
  next_unread name last (ReadFault of) is = subst (λ role. IsUnread files r (ReadFault role)) (sym is) (name, last)
  next_unread name last (TooLong of) (is, long) = subst (λ role. IsUnread files r (TooLong role)) (sym is) (name, last, long)
  next_unread name last OutOfMemory h = tt
  next_unread name last error h = subst (IsUnread files r) (sym h.1) (name, last, h.2)

-- ---- a refused file

-- what a reader says that refuses
pub said : {A B : Type 0} (view : A → B) (read_by : List ℕ → Result B Refusal) (read bytes : List ℕ) (e : FormatError) (refusal : Refusal) → read ≡ bytes
    → e ≡ FormatRefused refusal → Gives view (Err e) (read_by read) → read_by bytes ≡ Err refusal
said view read_by read bytes e refusal same is h =
    subst (λ (b : List ℕ). read_by b ≡ Err refusal) same (subst (λ (x : FormatError). Gives view (Err x) (read_by read)) is h)

module _ (files : Option Names) (name : List ℕ) (x : Refused) where
  -- it was read whole, within its limit, and gave this refusal
  pub refused-by : {A : Type 0} (read_by : List ℕ → Result A Refusal) → IfSome files (λ held. x.bytes.items ≡ bytes_at held name)
      → length x.bytes.items ≤ MAX_FILE → read_by x.bytes.items ≡ Err x.refusal → IfSome files (IsRefusedBy read_by name x)
  refused-by read_by same short read = by-files files same
    where
      by-files : (files : Option Names) → IfSome files (λ held. x.bytes.items ≡ bytes_at held name) → IfSome files (IsRefusedBy read_by name x)
      by-files None same = tt
      by-files (Some held) same = record {
        short = subst (λ (b : List ℕ). length b ≤ MAX_FILE) same short;
        read = subst (λ (b : List ℕ). read_by b ≡ Err x.refusal) same read;
        held = sym same;
      }

  pub no-instance : (role : InputRole) → IfSome files (IsInstanceRefused name x) → IsNoInstance role files name (instance_refused_as role x)
  no-instance Next h = (x, refl, h)
  no-instance role h = (x, refl, h)

  pub no-plan : (role : InputRole) (I : Draft) → IfSome files (IsSolutionRefused name I x) → IsNoPlan role files name I (refused_as role x)
  no-plan Older I h = (x, refl, h)
  no-plan role I h = (x, refl, h)

-- why a journal gives no bytes
pub journal_unread : (files : Option Names) (r : InputFiles) (name : List ℕ) → IsJournalNext files r name → (e : ReadError)
    → (e ≡ Long → IfSome files (IsLongerThan MAX_JOURNAL name)) → IsUnread files r (error_of_file Journal e)
journal_unread files r name next Unreadable long = (name, next)
journal_unread files r name next Long long = (name, next, long refl)
journal_unread files r name next NoRoom long = tt
