-- Heads found by their names.
use Rattle.std.proofs.Common.{◌≡◌, ◌<◌, ◌≤◌, ◌+◌, ◌⊎◌, ℕ, List, length, get_or, slice_get, Option, Some, None, Bool, true, false, cond, nat_eq, inl, inr, refl, sym, ap, ◌∙◌, subst, arith}
use Rattle.std.proofs.lemmas.Bool.{cases_lt}
use Rattle.std.proofs.lemmas.Bool.Decides.{Decides-eqb}
use Rattle.std.proofs.lemmas.List.{get_or_default}
use Rattle.std.proofs.lemmas.Option.{slice_get_read}
use Rattle.jn_reach.proofs.Searches.{same_some}
use Rattle.jn_base.specs.declared.tree.Name.{Name}
use Rattle.jn_header.specs.declared.bodies.BodyHead.{BodyHead}
use Rattle.jn_header.proofs.Numbers.{contained}
use Rattle.jn_header.specs.Bodies.{ArePlaced, FindsHead}

-- the number of the head's name
abbrev pub num : BodyHead → ℕ
num x = x.name.name.0

-- the first i heads are found
pub record PlacedTo (heads : List BodyHead) (i : ℕ) (find : ℕ → Option ℕ) : Type 0 where
  pub sound : (n k : ℕ) → find n ≡ Some k → (x : BodyHead) × (slice_get heads k ≡ Some x) × (num x ≡ n)
  pub complete : (j : ℕ) (x : BodyHead) → j < i → slice_get heads j ≡ Some x → (k : ℕ) × (find (num x) ≡ Some k)

pub placed_none : (heads : List BodyHead) (find : ℕ → Option ℕ) → ((n : ℕ) → find n ≡ None) → PlacedTo heads 0 find
placed_none heads find e = record {
  sound = λ n k h. absurd (clash k (sym (e n) ∙ h));
  complete = λ j x l at. absurd (omega (arith, l));
} where
  clash : (k : ℕ) → (let o : Option ℕ = None in o ≡ Some k) → ⊥
  clash k h = cc h

module _ (heads : List BodyHead) (i : ℕ) (x : BodyHead) (find new : ℕ → Option ℕ) (at : slice_get heads i ≡ Some x) (h : PlacedTo heads i find) (u : (q : ℕ) → new q ≡ cond (nat_eq (num x) q) (Some i) (find q)) where
  told : (q : ℕ) (b : Bool) → nat_eq (num x) q ≡ b → new q ≡ cond b (Some i) (find q)
  told q b e = u q ∙ ap (λ (c : Bool). cond c (Some i) (find q)) e

  sound_more : (n k : ℕ) (b : Bool) → nat_eq (num x) n ≡ b → new n ≡ Some k → (y : BodyHead) × (slice_get heads k ≡ Some y) × (num y ≡ n)
  sound_more n k true t e =
      let s : ◌≡◌ {A = Option ℕ} (Some i) (Some k) = sym (told n true t) ∙ e in
      let j : i ≡ k = cc s in
      (x, subst (λ (m : ℕ). slice_get heads m ≡ Some x) j at, (Decides-eqb (num x) n).0 t)
  sound_more n k false t e = h.sound n k (sym (told n false t) ∙ e)

  still : (y : BodyHead) (k : ℕ) (b : Bool) → nat_eq (num x) (num y) ≡ b → find (num y) ≡ Some k → (m : ℕ) × (new (num y) ≡ Some m)
  still y k true t e = (i, told (num y) true t)
  still y k false t e = (k, told (num y) false t ∙ e)

  complete_more : (j : ℕ) (y : BodyHead) → (j < i) ⊎ (i ≤ j) → j < i + 1 → slice_get heads j ≡ Some y → (m : ℕ) × (new (num y) ≡ Some m)
  complete_more j y (inl b) l a = let w = h.complete j y b a in still y w.0 (nat_eq (num x) (num y)) refl w.1
  complete_more j y (inr b) l a =
      let e : i ≡ j = omega (arith, b, l) in
      let s : x ≡ y = same_some (slice_get heads j) x y (subst (λ (m : ℕ). slice_get heads m ≡ Some x) e at) a in
      (i, told (num y) true ((Decides-eqb (num x) (num y)).1 (ap num s)))

  pub placed_more : PlacedTo heads (i + 1) new
  placed_more = record {
    sound = λ n k e. sound_more n k (nat_eq (num x) n) refl e;
    complete = λ j y l a. complete_more j y (cases_lt j i) l a;
  }

pub placed_all : (heads : List BodyHead) (i : ℕ) (find : ℕ → Option ℕ) → length heads ≤ i → PlacedTo heads i find → ArePlaced heads find
placed_all heads i find l h = record {
  sound = h.sound;
  complete = λ x c. h.complete c.0 x (let k = c.1 in omega (arith, k, l)) (slice_get_read heads (length heads) c.0 x refl c.1 (sym c.2));
}

pub read_at : (heads : List BodyHead) (i : ℕ) (d : BodyHead) → i < length heads → slice_get heads i ≡ Some (get_or heads i d)
read_at heads i d l = slice_get_read heads (length heads) i (get_or heads i d) refl l (get_or_default heads i d (get_or heads i d) l)

-- ---- what is found

here : (heads : List BodyHead) (k : ℕ) (x : BodyHead) (name : Name) → slice_get heads k ≡ Some x → num x ≡ name.0 → FindsHead heads name (Some x)
here heads k x name at e = (contained heads k x at, ap (λ n. record { 0 = n }) e)

pub found : (heads : List BodyHead) (find : ℕ → Option ℕ) (name : Name) (k : ℕ) (o : Option BodyHead) → ArePlaced heads find → find name.0 ≡ Some k → o ≡ slice_get heads k
    → FindsHead heads name o
found heads find name k o placed e at =
    let w = placed.sound name.0 k e in
    subst (FindsHead heads name) (sym (at ∙ w.1)) (here heads k w.0 name w.1 w.2)

pub not_found : (heads : List BodyHead) (find : ℕ → Option ℕ) (name : Name) → ArePlaced heads find → find name.0 ≡ None → FindsHead heads name None
not_found heads find name placed e x c same =
    let w = placed.complete x c in
    clash w.0 (sym e ∙ (ap find (ap (λ (m : Name). m.0) (sym same)) ∙ w.1)) where
      clash : (k : ℕ) → (let o : Option ℕ = None in o ≡ Some k) → ⊥
      clash k h = cc h

-- the row's heads are found by its places
pub in_row : {F : ℕ → Option ℕ} (heads xs : List BodyHead) → heads ≡ xs → ArePlaced xs F → ArePlaced heads F
in_row {F} heads xs e h = subst (λ (ys : List BodyHead). ArePlaced ys F) (sym e) h
