-- The search for the first mask by name.
use Rattle.std.specs.Prelude.{◌≡◌, ◌<◌, ◌⊎◌, ℕ, List, slice_get, Option, Some, None}
use Rattle.std.specs.declared.cmp.Ordering.TheVariants.{Less}
use Rattle.jn_base.specs.declared.tree.Name.{Name}
use Rattle.jn_base.specs.declared.tree.Program.{Program}
use Rattle.jn_base.specs.declared.types.Masks.{Masks}
use Rattle.jn_base.specs.Atoms.{HasMask}
use Rattle.jn_rules.specs.Questions.{mask_cmp}

-- the name itself, where nothing was found or it comes before that; else what was found
abbrev pub IsEarlier : Program → Option Name → Name → Name → Type 0
IsEarlier p None n r = r ≡ n
IsEarlier p (Some f) n r = ((r ≡ n) × (mask_cmp p n f ≡ Less)) ⊎ ((r ≡ f) × (mask_cmp p n f ≡ Less → ⊥))

-- what is found behind the number i, which may be a mask
abbrev pub NextFirst : Program → Masks → ℕ → Name → Option Name → Option Name → Type 0
NextFirst p m i n found r =
    (HasMask m i × ((f : Name) × (r ≡ Some f) × IsEarlier p found n f)) ⊎ ((HasMask m i → ⊥) × (r ≡ found))

-- a mask below the number n
pub record MaskBelow (names : List Name) (m : Masks) (n : ℕ) (f : Name) : Type 0 where
  pub number : ℕ
  pub below : number < n
  pub has : HasMask m number
  pub name : slice_get names number ≡ Some f

-- the first of the masks below n, or there is none
abbrev pub FirstBelow : Program → List Name → Masks → ℕ → Option Name → Type 0
FirstBelow p names m n None = (f : Name) → MaskBelow names m n f → ⊥
FirstBelow p names m n (Some f) =
    MaskBelow names m n f × ((g : Name) → MaskBelow names m n g → mask_cmp p g f ≡ Less → ⊥)
