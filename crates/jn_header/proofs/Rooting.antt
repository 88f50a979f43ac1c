-- Constraints with `this` at a class: what they are there, and whether they hold.
use Rattle.std.proofs.Common.{◌≡◌, ◌↔◌, ◌<◌, ◌≤◌, ◌+◌, ℕ, List, [], ◌∷◌, ◌++◌, length, get_or, slice_get, reverse, drop, map, Bool, true, false, IsTrue, Option, Some, None, inl, inr, refl, sym, ap, ◌∙◌, subst, arith}
use Rattle.std.specs.Prelude.{Result, Ok}
use Rattle.std.proofs.lemmas.Bool.{cases_lt}
use Rattle.std.proofs.lemmas.Option.{slice_get_read, slice_get_within}
use Rattle.jn_reach.specs.Each.{Each}
use Rattle.jn_reach.proofs.Eachs.{Each-back, Each-length}
use Rattle.jn_reach.proofs.Searches.{same_some}
use Rattle.jn_base.specs.declared.tree.Name.{Name}
use Rattle.jn_base.specs.declared.tree.Constraint.{Constraint}
use Rattle.jn_base.specs.declared.tree.Program.{Program}
use Rattle.jn_base.specs.declared.path.Path.{Path as ShownPath}
use Rattle.jn_base.specs.declared.refusal.Refusal.{Refusal}
use Rattle.jn_base.specs.declared.types.Anchor.{Anchor}
use Rattle.jn_base.specs.declared.types.Anchor.TheVariants.{Root, Up}
use Rattle.jn_base.specs.declared.types.Atom.{Atom as ShownAtom}
use Rattle.jn_base.specs.declared.types.Masks.{Masks}
use Rattle.jn_base.specs.declared.types.Ty.{Ty}
use Rattle.jn_base.specs.declared.types.Ty.TheVariants as ty
use Rattle.jn_base.specs.Paths.{Path}
use Rattle.jn_base.specs.Atoms.{Atom, atom, atom_of}
use Rattle.jn_base.specs.ResolveTypes.{mask_names}
use Rattle.jn_table.specs.declared.table.Table.{Table}
use Rattle.jn_table.specs.Tables.{IsFilled}
use Rattle.jn_sem.specs.Does.{Body}
use Rattle.jn_sem.specs.Holds.{Sides, Holds, RefutedBy, rooted, rooted_at, HoldsAt}
use Rattle.jn_heads.specs.declared.sides.Pledge.{Pledge as TypePledge}
use Rattle.jn_heads.specs.Sides.{IsPledge}
use Rattle.jn_rules.specs.Plans.{Pledge, target_type}
use Rattle.jn_rules.specs.Questions.{Answers, header_site, ConstraintGives, masks_of}
use Rattle.jn_rule_laws.proofs.RepliesOne.{constraint_once}
use Rattle.jn_views.specs.declared.held.Held.{Held}
use Rattle.jn_views.specs.declared.held.Held.TheVariants.{Yes, NoCounterpart, Unshared}
use Rattle.jn_views.specs.Held.{HeldIs, SaysHeld}
use Rattle.jn_views.specs.Held as views
use Rattle.jn_header.specs.declared.shared.Shared.{Shared}
use Rattle.jn_header.specs.Shared.{AreShared}
use Rattle.jn_header.specs.Constraints.{sides_of, pledge_sides, SomeFails}
use Rattle.jn_header.proofs.Numbers.{in_list, contained}

-- ---- atoms

abbrev root : List Name → List Name → ShownAtom
root es ns = record { anchor = Root; exact = es; names = ns }

pub root_is : (R : Path) (x y : ShownAtom) → x.anchor ≡ Root → y ≡ root x.exact x.names → atom_of y ≡ rooted_at R (atom_of x)
root_is R x y a e =
    ap atom_of e ∙ (ap (λ (c : Anchor). atom c (reverse x.exact) (reverse x.names)) (sym a) ∙ sym (ap (rooted R (atom_of x)) a))

pub up_is : (R : Path) (x y : ShownAtom) (q k : ℕ) (es : List Name) → x.anchor ≡ Up q k → reverse es ≡ reverse x.exact ++ drop k R → y ≡ root es x.names
    → atom_of y ≡ rooted_at R (atom_of x)
up_is R x y q k es a n e =
    ap atom_of e ∙ (ap (λ (ns : List Name). atom Root ns (reverse x.names)) n ∙ sym (ap (rooted R (atom_of x)) a))

-- ---- whether it holds

refuted_not : (p : Program) (c : Sides) (U : Path) (f : Option Name) → RefutedBy p c U f → Holds p c → ⊥
refuted_not p c U f (RefutedBy.no_counterpart V first none s e) h = first.holds.refused (h V first.holds.class first.holds.is_in)
refuted_not p c U f (RefutedBy.unshared V W g first turns block s e) h = first.holds.refused (h V first.holds.class first.holds.is_in)

held_told : (p : Program) (known : List ShownPath) (c : Sides) (h : Held) → HeldIs p known c h → (r : Bool) → IsTrue r ↔ (h ≡ Yes) → Answers (Holds p c) r
held_told p known c Yes h true f = h
held_told p known c Yes h false f = absurd (clash (f.1 refl)) where
  clash : IsTrue false → ⊥
  clash e = cc e
held_told p known c (NoCounterpart id) h true f = absurd (clash (f.0 refl)) where
  clash : NoCounterpart id ≡ Yes → ⊥
  clash e = cc e
held_told p known c (NoCounterpart id) h false f = refuted_not p c h.0 None h.2
held_told p known c (Unshared id g) h true f = absurd (clash (f.0 refl)) where
  clash : Unshared id g ≡ Yes → ⊥
  clash e = cc e
held_told p known c (Unshared id g) h false f = refuted_not p c h.0 (Some g) h.2

sides_same : (names : List Name) (a b : List Atom) (hidden : Masks) (c d : Atom) (m : Masks) → a ≡ b → c ≡ d
    → (let s : Sides = record { names = names; from = a; from_masks = hidden; to = c; to_masks = m } in s) ≡ record { names = names; from = b; from_masks = hidden; to = d; to_masks = m }
sides_same names a b hidden c d m e f i = record { names = names; from = e i; from_masks = hidden; to = f i; to_masks = m }

pub atoms_told : (t : Table) (s : Shared) (names : List Name) (R : Path) (x y fx fy : ShownAtom) (hidden m : Masks) (xs : List ShownAtom) (h : Held) (r : Bool) → xs ≡ fx ∷ []
    → atom_of fx ≡ rooted_at R (atom_of x) → atom_of fy ≡ rooted_at R (atom_of y) → SaysHeld t s.groups s.slots (views.sides (ty.Class xs hidden) fy m names) h → IsTrue r ↔ (h ≡ Yes)
    → (p : Program) → IsFilled p t → AreShared p t.known.items s → Answers (HoldsAt p R (sides_of names x hidden y m)) r
atoms_told t s names R x y fx fy hidden m xs h r one e f says is p filled shared =
    let a : map atom_of xs ≡ rooted_at R (atom_of x) ∷ [] = ap (map atom_of) one ∙ ap (λ (z : Atom). z ∷ []) e in
    subst (λ (c : Sides). Answers (Holds p c) r) (sides_same names (map atom_of xs) (rooted_at R (atom_of x) ∷ []) hidden (atom_of fy) (rooted_at R (atom_of y)) m a f)
    (held_told p t.known.items (views.sides (ty.Class xs hidden) fy m names) h (says p filled shared.groups shared.slots) r is)

-- ---- the sides of a pledge

pub same_atom : (x y : ShownAtom) → ◌≡◌ {A = Option ShownAtom} (Some x) (Some y) → x ≡ y
same_atom x y e = cc e

pub no_target : (o : Option ShownAtom) (x : ShownAtom) → o ≡ None → o ≡ Some x → ⊥
no_target o x e f = clash (sym e ∙ f) where
  clash : (let n : Option ShownAtom = None in n ≡ Some x) → ⊥
  clash g = cc g

pub target_is : (o : Option ShownAtom) (x y : ShownAtom) → o ≡ Some x → o ≡ Some y → x ≡ y
target_is o x y e f = same (sym e ∙ f) where
  same : (let n : Option ShownAtom = Some x in n ≡ Some y) → x ≡ y
  same g = cc g

pub pledge_told : (p : Program) (R : Path) (names : List Name) (x y : ShownAtom) (from to : Ty) (hidden m : Masks) (k : Pledge) (r : Bool) → names ≡ mask_names p → x ≡ k.from.atom → y ≡ k.to.atom
    → from ≡ target_type k.from → to ≡ target_type k.to → hidden ≡ masks_of from → m ≡ masks_of to → Answers (HoldsAt p R (sides_of names x hidden y m)) r
    → Answers (HoldsAt p R (pledge_sides p k)) r
pledge_told p R names x y from to hidden m k r n a b f g h i told =
    let hid : hidden ≡ k.from.masks = h ∙ ap masks_of f in
    let mas : m ≡ k.to.masks = i ∙ ap masks_of g in
    subst (λ (ns : List Name). Answers (HoldsAt p R (sides_of ns k.from.atom k.from.masks k.to.atom k.to.masks)) r) n
    (subst (λ (z : ShownAtom). Answers (HoldsAt p R (sides_of names z k.from.masks k.to.atom k.to.masks)) r) a
    (subst (λ (z : ShownAtom). Answers (HoldsAt p R (sides_of names x k.from.masks z k.to.masks)) r) b
    (subst (λ (w : Masks). Answers (HoldsAt p R (sides_of names x w y k.to.masks)) r) hid
    (subst (λ (w : Masks). Answers (HoldsAt p R (sides_of names x hidden y w)) r) mas told))))

-- ---- constraints one by one

module _ (p : Program) (R : Path) (b : Body) (cs : List Constraint) where
  -- the first i of them hold
  abbrev pub HoldTo : ℕ → Type 0
  HoldTo i = (j : ℕ) (c : Constraint) (k : Pledge) → j < i → slice_get cs j ≡ Some c → ConstraintGives p (header_site b.class b.method.name.name) c (Ok k) → HoldsAt p R (pledge_sides p k)

  pub hold_start : HoldTo 0
  hold_start j c k l a g = absurd (omega (arith, l))

  module _ (pledges : List TypePledge) (each : Each (IsPledge p b.class b.method.name.name) cs pledges) (i : ℕ) (x : TypePledge) (l : i < length pledges) (is : x ≡ get_or pledges i x) where
    here : (c : Constraint) × (slice_get cs i ≡ Some c) × IsPledge p b.class b.method.name.name c x
    here = Each-back (IsPledge p b.class b.method.name.name) each i x (slice_get_read pledges (length pledges) i x refl l is)

    pub hold_more : (r : Bool) → r ≡ true → HoldTo i
        → ((k : Pledge) → x.from ≡ target_type k.from → x.to ≡ target_type k.to → Answers (HoldsAt p R (pledge_sides p k)) r) → HoldTo (i + 1)
    hold_more r e h told j c k m a g = elim (cases_lt j i) [
      | inl below ↦ h j c k below a g
      | inr past ↦
          let same : j ≡ i = omega (arith, m, past) in
          let at : slice_get cs i ≡ Some c = subst (λ (n : ℕ). slice_get cs n ≡ Some c) same a in
          let w = here.2 in
          let one : here.0 ≡ c = same_some (slice_get cs i) here.0 c here.1 at in
          let got : ConstraintGives p (header_site b.class b.method.name.name) c (Ok w.pledge) =
          subst (λ (d : Constraint). ConstraintGives p (header_site b.class b.method.name.name) d (Ok w.pledge)) one w.resolved in
          let k_is : w.pledge ≡ k = same_pledge w.pledge k (constraint_once p (header_site b.class b.method.name.name) c (Ok w.pledge) (Ok k) got g) in
          let holds : HoldsAt p R (pledge_sides p w.pledge) = subst (Answers (HoldsAt p R (pledge_sides p w.pledge))) e (told w.pledge w.from w.to) in
          subst (λ (q : Pledge). HoldsAt p R (pledge_sides p q)) k_is holds
    ] where
      same_pledge : (a b : Pledge) → (let o : Result Pledge Refusal = Ok a in o ≡ Ok b) → a ≡ b
      same_pledge a b f = cc f

    pub fails_here : (r : Bool) → r ≡ false
        → ((k : Pledge) → x.from ≡ target_type k.from → x.to ≡ target_type k.to → Answers (HoldsAt p R (pledge_sides p k)) r) → SomeFails p R b cs
    fails_here r e told =
        let w = here.2 in
        record {
          constraint = here.0;
          among = contained cs i here.0 here.1;
          pledge = w.pledge;
          is = w.resolved;
          fails = subst (Answers (HoldsAt p R (pledge_sides p w.pledge))) e (told w.pledge w.from w.to);
        }

  pub hold_all : (pledges : List TypePledge) → Each (IsPledge p b.class b.method.name.name) cs pledges → (i : ℕ) → length pledges ≤ i → HoldTo i → SomeFails p R b cs → ⊥
  hold_all pledges each i l h f =
      let at = in_list cs f.constraint f.among in
      let w = slice_get_within cs at.0 f.constraint at.1 in
      let same = Each-length (IsPledge p b.class b.method.name.name) each in
      f.fails (h at.0 f.constraint f.pledge (omega (arith, w, same, l)) at.1 f.is)
