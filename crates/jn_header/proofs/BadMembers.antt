-- The first name of a class that breaks a rule, by the names of its row.
use Rattle.std.proofs.Common.{◌≡◌, ◌<◌, ◌≤◌, ◌+◌, ℕ, List, [], ◌∷◌, length, get_or, slice_get, sym, ◌∙◌, subst, arith, Option, Some, None, Bool, true, false, inl, inr}
use Rattle.std.specs.declared.cmp.Ordering.TheVariants.{Less}
use Rattle.std.proofs.lemmas.Option.{slice_get-get_or, slice_get_within}
use Rattle.std.proofs.lemmas.Bool.{cases_lt}
use Rattle.jn_reach.proofs.Searches.{same_some}
use Rattle.jn_base.specs.declared.tree.Name.{Name}
use Rattle.jn_base.specs.declared.tree.Program.{Program}
use Rattle.jn_base.specs.declared.path.Path.{Path as ShownPath}
use Rattle.jn_base.specs.Paths.{Path}
use Rattle.jn_base.specs.ClassOrder.{name_cmp}
use Rattle.jn_table.specs.Rows.{AreNames}
use Rattle.jn_table.specs.declared.class.ClassId.{ClassId}
use Rattle.jn_base.proofs.ClassOrders.{before_irreflexive, before_chain}
use Rattle.jn_table.proofs.Before.{before_sibling, sibling_before}
use Rattle.jn_table.proofs.Sorted.{in_order, place_below}
use Rattle.jn_names.specs.declared.members.Least.TheVariants as least
use Rattle.jn_names.specs.Members.{FieldIs}
use Rattle.jn_names.proofs.MemberProof.{place_of}
use Rattle.jn_rules.specs.Questions.{Answers}
use Rattle.jn_rules.specs.Members.{BadField}
use Rattle.jn_header.specs.Members.{FirstOf, FirstBad}

-- ---- a field

module _ (p : Program) (known : List ShownPath) (R : Path) (f : Name) where
  pub many_bad : (a b : ClassId) → FieldIs p known R f (least.Many a b) → BadField p R f
  many_bad a b h = record { one = h.one; other = h.two; at_one = h.one_first.holds; at_other = h.two_first.holds.0; apart = λ e. h.two_first.holds.1 (sym e) }

  pub one_good : (a : ClassId) → FieldIs p known R f (least.One a) → BadField p R f → ⊥
  one_good a h b = b.apart (h.2.only b.one b.at_one ∙ sym (h.2.only b.other b.at_other))

  pub none_good : FieldIs p known R f least.None → BadField p R f → ⊥
  none_good h b = h b.one b.at_one

pub told_bad : (p : Program) (R : Path) (f : Name) (b : Bool) → b ≡ true → Answers (BadField p R f) b → BadField p R f
told_bad p R f b e h = subst (Answers (BadField p R f)) e h

pub told_good : (p : Program) (R : Path) (f : Name) (b : Bool) → b ≡ false → Answers (BadField p R f) b → BadField p R f → ⊥
told_good p R f b e h = subst (Answers (BadField p R f)) e h

-- ---- the first of a list

abbrev pub NoneTo : (Name → Type 0) → List Name → ℕ → Type 0
NoneTo T names i = (j : ℕ) (g : Name) → j < i → slice_get names j ≡ Some g → T g → ⊥

module _ (T : Name → Type 0) (names : List Name) (i : ℕ) (none : NoneTo T names i) (d : Name) (l : i < length names) where
  here : slice_get names i ≡ Some (get_or names i d)
  here = slice_get-get_or names i d l

  pub first_here : T (get_or names i d) → FirstOf T names (Some (get_or names i d))
  first_here t = record { place = i; at = here; holds = t; first = none }

  pub none_more : (T (get_or names i d) → ⊥) → NoneTo T names (i + 1)
  none_more n j g k a t = elim (cases_lt j i) [
    | inl below ↦ none j g below a t
    | inr past ↦
        let same : j ≡ i = omega (arith, k, past) in
        let at : slice_get names i ≡ Some g = subst (λ (m : ℕ). slice_get names m ≡ Some g) same a in
        n (subst T (same_some (slice_get names i) g (get_or names i d) at here) t)
  ]

pub none_at_all : (T : Name → Type 0) (names : List Name) (i : ℕ) → length names ≤ i → NoneTo T names i → FirstOf T names None
none_at_all T names i l none j g a t = none j g (let w : j < length names = slice_get_within names j g a in omega (arith, w, l)) a t

-- ---- by the bytes of the names

name_irreflexive : (p : Program) (n : Name) → name_cmp p n n ≡ Less → ⊥
name_irreflexive p n e = before_irreflexive p (n ∷ []) (before_sibling p [] n n e)

name_chain : (p : Program) (a b c : Name) → name_cmp p a b ≡ Less → name_cmp p b c ≡ Less → name_cmp p a c ≡ Less
name_chain p a b c e f = sibling_before p [] a c (before_chain p (a ∷ []) (b ∷ []) (c ∷ []) (before_sibling p [] a b e) (before_sibling p [] b c f))

pub by_bytes : (p : Program) (T H : Name → Type 0) (names : List Name) → AreNames p H names → ((n : Name) → T n → H n) → (o : Option Name) → FirstOf T names o → FirstBad p T o
by_bytes p T H names are has None none = λ n t. let w = place_of names n ((are.exact n).1 (has n t)) in none w.0 n w.2 t
by_bytes p T H names are has (Some f) h = record {
  holds = h.holds;
  first = λ g t less. let w = place_of names g ((are.exact g).1 (has g t)) in
      h.first w.0 g
      (place_below (name_cmp p) (name_irreflexive p) (name_chain p) names (in_order (name_cmp p) names are.in_order) w.0 h.place g f w.2 h.at less) w.2 t;
}
