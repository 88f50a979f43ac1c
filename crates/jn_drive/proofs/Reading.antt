-- Pieces read one after the other are the front of what was left to be read.
use Rattle.std.proofs.Common.{◌≡◌, ℕ, ◌≤◌, List, ◌++◌, take, drop, length, ap, sym, refl, Some, None, append-nil, append_assoc, ◌⊎◌, inl, inr, subst, ◌∙◌, Result, Ok, Err}
use Rattle.std.proofs.lemmas.List.{take_all, drop_all, take_at, drop_at}
use Rattle.std.proofs.lemmas.Option.{same_Some}
use Rattle.std.specs.declared.option.Option.{Option}
use Rattle.std.specs.Io.KnownBytes.{prepend_known, IsAtEnd}
use Rattle.jn_drive.specs.Reading.{IsFront, ReadsRest, ReadsFile}
use Rattle.jn_drive.specs.declared.halt.Halt.{Halt}
use Rattle.jn_drive.specs.declared.halt.Halt.TheVariants as halt
use Rattle.jn_io.specs.Causes.{Rose}
use Rattle.jn_io.specs.Told.{Files, IsFileOf}

prepend_both : (a b : List ℕ) (k : Option (List ℕ)) → prepend_known a (prepend_known b k) ≡ prepend_known (a ++ b) k
prepend_both a b None = refl
prepend_both a b (Some xs) = ap (λ (ys : List ℕ). Some ys) (sym (append_assoc a b xs))

-- One piece more.
pub one_piece : (rest rest' rest'' : Option (List ℕ)) (source piece source' : List ℕ) → rest ≡ prepend_known source rest' → rest' ≡ prepend_known piece rest'' → source' ≡ source ++ piece → rest ≡ prepend_known source' rest''
one_piece rest rest' rest'' source piece source' before next added = rw (before, next, prepend_both source piece rest'', added) refl

-- All was read, or as much as is read at most.
split_read : (most : ℕ) (front left : List ℕ) → length front ≤ most → IsAtEnd (Some left) ⊎ (length front ≡ most) → (front ≡ take most (front ++ left)) × (Some left ≡ Some (drop most (front ++ left)))
split_read most front left short (inl none) =
    let whole : front ++ left ≡ front = ap (λ (xs : List ℕ). front ++ xs) none ∙ append-nil front in (
      sym (ap (take most) whole ∙ take_all most front short),
      ap (λ (xs : List ℕ). Some xs) (none ∙ sym (ap (drop most) whole ∙ drop_all most front short)),
    )
split_read most front left short (inr full) = (sym (take_at front left most full), ap (λ (xs : List ℕ). Some xs) (sym (drop_at front left most full)))

pub front_read : (most : ℕ) (rest rest' : Option (List ℕ)) (source : List ℕ) → rest ≡ prepend_known source rest' → length source ≤ most → IsAtEnd rest' ⊎ (length source ≡ most) → IsFront most rest rest' source
front_read most None rest' source was short stop = short
front_read most (Some bytes) None source was short stop = absurd (cc)
front_read most (Some bytes) (Some left) source was short stop =
    subst (λ (bs : List ℕ). (source ≡ take most bs) × (Some left ≡ Some (drop most bs))) (sym (same_Some _ _ was)) (split_read most source left short stop)

-- A file that was begun, and then read.
pub file_read : (most : ℕ) (files : Option Files) (file : List ℕ) (rest rest' : Option (List ℕ)) (f f' f'' : ℕ) (r : Result (List ℕ) Halt) → IsFileOf files file rest → f' ≡ f → ReadsRest most rest rest' f' f'' r → ReadsFile most files file rest' f f'' r
file_read most None file None rest' f f' f'' (Ok front) begun same (kept, short) = (kept ∙ same, (front, tt, sym (take_all most front short), tt))
file_read most None file (Some bytes) rest' f f' f'' (Ok front) begun same (kept, is) = (kept ∙ same, (bytes, tt, is.0, tt))
file_read most (Some files) file None rest' f f' f'' (Ok front) begun same (kept, is) = absurd (let there = begun.0 in cc)
file_read most (Some files) file (Some bytes) rest' f f' f'' (Ok front) begun same (kept, is) = (kept ∙ same, (bytes, sym begun.1, is.0, is.1))
file_read most files file rest rest' f f' f'' (Err (halt.Refused line)) begun same r = absurd r
file_read most files file rest rest' f f' f'' (Err (halt.BadImage line)) begun same r = absurd r
file_read most files file rest rest' f f' f'' (Err halt.Unread) begun same r = inl (subst (λ (n : ℕ). Rose n f'') same r)
file_read most files file rest rest' f f' f'' (Err halt.Memory) begun same r = r ∙ same
