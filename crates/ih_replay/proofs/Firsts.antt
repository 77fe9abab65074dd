-- The first of some reasons whose check isn't passed.
use Rattle.std.proofs.Common.{◌∙◌, sym, ap, List, [], ◌∷◌, ◌++◌, append_assoc}
use Rattle.std.specs.List.{AllByRecursion}
use Rattle.ih_tables.specs.declared.journal_refusals.Reason.{Reason}
use Rattle.ih_replay.specs.Refusals.{IsFirstOf}

pub all-append : (P : Reason → Type 0) (xs ys : List Reason) → AllByRecursion P xs → AllByRecursion P ys → AllByRecursion P (xs ++ ys)
all-append P [] ys hx hy = hy
all-append P (x ∷ xs) ys hx hy = (hx.0, all-append P xs ys hx.1 hy)

all-same : (P Q : Reason → Type 0) (xs : List Reason) → ((s : Reason) → P s → Q s) → AllByRecursion P xs → AllByRecursion Q xs
all-same P Q [] to h = tt
all-same P Q (x ∷ xs) to h = (to x h.0, all-same P Q xs to h.1)

-- the checks before these are passed
pub first-behind : (P : Reason → Type 0) (xs ys : List Reason) (r : Reason) → AllByRecursion P xs → IsFirstOf P ys r → IsFirstOf P (xs ++ ys) r
first-behind P xs ys r before first = record {
  earlier = xs ++ first.earlier;
  later = first.later;
  listed = ap (λ zs. xs ++ zs) first.listed ∙ sym (append_assoc xs first.earlier (r ∷ first.later));
  passed = all-append P xs first.earlier before first.passed;
  fails = first.fails;
}

-- whatever comes behind
pub first-before : (P : Reason → Type 0) (xs ys : List Reason) (r : Reason) → IsFirstOf P xs r → IsFirstOf P (xs ++ ys) r
first-before P xs ys r first = record {
  earlier = first.earlier;
  later = first.later ++ ys;
  listed = ap (λ zs. zs ++ ys) first.listed ∙ append_assoc first.earlier (r ∷ first.later) ys;
  passed = first.passed;
  fails = first.fails;
}

-- by checks that say the same
pub first-same : (P Q : Reason → Type 0) (xs : List Reason) (r : Reason) → ((s : Reason) → P s → Q s) → ((s : Reason) → Q s → P s) → IsFirstOf P xs r → IsFirstOf Q xs r
first-same P Q xs r to fro first = record {
  earlier = first.earlier;
  later = first.later;
  listed = first.listed;
  passed = all-same P Q first.earlier to first.passed;
  fails = λ h. first.fails (fro r h);
}
