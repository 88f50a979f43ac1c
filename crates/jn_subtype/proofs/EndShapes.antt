-- Why an atom ends at another, from what is seen of both lists of names with the outermost name first.
use Rattle.std.proofs.Common.{nat_eq, true, ◌≡◌, ◌<◌, ◌+◌, ◌-◌, ◌++◌, ℕ, suc, List, [], length, take, drop, reverse, sym, ap, ◌∙◌, subst, arith, length-append, length-drop, take-append-drop}
use Rattle.std.proofs.lemmas.List.{reverse-append, reverse-reverse, length-reverse}
use Rattle.std.proofs.Math.Seq.{take-append_seam}
use Rattle.std.proofs.lemmas.Bool.Decides.{nat_tests}
use Rattle.jn_base.specs.declared.tree.Name.{Name}
use Rattle.jn_base.specs.declared.tree.Program.{Program}
use Rattle.jn_base.specs.declared.types.Anchor.{Anchor}
use Rattle.jn_base.specs.declared.types.Anchor.TheVariants.{Up}
use Rattle.jn_base.specs.Paths.{Path}
use Rattle.jn_base.specs.Supers.{Sup}
use Rattle.jn_base.specs.Universe.{InUniverse}
use Rattle.jn_base.specs.Atoms.{Atom, anchor_at}
use Rattle.jn_base.specs.Scopes.{Scope, bound_of, bound}
use Rattle.jn_sem.specs.Search.{EndsPlainly, level, higher}
use Rattle.jn_subtype.specs.Ends.{IsLevel, IsHigher}

-- the names of an atom, shown with the outermost first
pub turned : (ns shown : List Name) → reverse shown ≡ ns → length ns ≡ length shown
turned ns shown e = sym (ap length e) ∙ length-reverse shown

pub equal_true : (m n : ℕ) → m ≡ n → nat_eq m n ≡ true
equal_true m n e = grind (arith, nat_tests)

module _ (x y : Atom) (xe ye : List Name) (a : reverse xe ≡ x.exact) (b : reverse ye ≡ y.exact) where
  pub level_front : IsLevel x y → take (length ye) xe ≡ ye
  level_front r =
      let whole : xe ≡ ye ++ reverse r.front =
      sym (reverse-reverse xe) ∙ ap reverse (a ∙ r.exact ∙ ap (λ (t : List Name). r.front ++ t) (sym b)) ∙ reverse-append r.front (reverse ye)
      ∙ ap (λ (t : List Name). t ++ reverse r.front) (reverse-reverse ye) in
      ap (take (length ye)) whole ∙ take-append_seam ye (reverse r.front)

module _ (x y : Atom) (xe ye xn yn : List Name) (a : reverse xe ≡ x.exact) (b : reverse ye ≡ y.exact) (c : reverse xn ≡ x.names) (d : reverse yn ≡ y.names) where
  pub level_shown : x.anchor ≡ y.anchor → take (length ye) xe ≡ ye → length yn + length ye ≡ length xn + length xe → IsLevel x y
  level_shown e f l =
      let rest : List Name = drop (length ye) xe in
      let whole : xe ≡ ye ++ rest = sym (take-append-drop (length ye) xe) ∙ ap (λ (t : List Name). t ++ rest) f in
      record {
        front = reverse rest;
        exact = sym a ∙ ap reverse whole ∙ reverse-append ye rest ∙ ap (λ (t : List Name). reverse rest ++ t) b;
        anchor = sym e;
        long = omega (arith, l, turned x.names xn c, turned y.names yn d, ap length whole, length-append ye rest, length-reverse rest);
      }

  pub level_long : IsLevel x y → length yn + length ye ≡ length xn + length xe
  level_long r =
      omega (arith, r.long, turned x.names xn c, turned y.names yn d, turned x.exact xe a, turned y.exact ye b, ap length r.exact, length-append r.front y.exact)

pub super_of : {p : Program} {P Q R S : Path} → P ≡ R → Q ≡ S → Sup p P Q → Sup p R S
super_of {p} {P} {Q} {R} {S} e h u = subst (Sup p R) h (subst (λ (X : Path). Sup p X Q) e u)

-- whether y is longer than its names is whether its anchor takes off fewer names than the path's bound has
pub bound_more : (s : Scope) (q k : ℕ) (x : Atom) → x.anchor ≡ Up q k → x.exact ≡ [] → length (bound s x) ≡ length x.names + (length (bound_of s q) - k)
bound_more s q k x a e =
    length-append x.names (x.exact ++ anchor_at (bound_of s) x.anchor)
    ∙ ap (λ (es : List Name). length x.names + length (es ++ anchor_at (bound_of s) x.anchor)) e
    ∙ ap (λ (b : Anchor). length x.names + length (anchor_at (bound_of s) b)) a
    ∙ ap (λ (l : ℕ). length x.names + l) (length-drop k (bound_of s q))

module _ {p : Program} {s : Scope} {x y : Atom} where
  pub level_ends : IsLevel x y → Sup p (bound s x) (bound s y) → EndsPlainly p s x y
  level_ends r u = level r.front r.exact r.anchor r.long u

  pub higher_ends : IsHigher x y → length y.names < length (bound s y) → InUniverse p (bound s x) → Sup p (bound s x) (bound s y) → EndsPlainly p s x y
  higher_ends r g n u =
      let t = r.raised in
      let m : ℕ = r.further - 1 in
      let shift : t.levels + r.further ≡ suc (t.levels + m) = omega (arith, t.some) in
      higher t.path t.levels m t.lower (t.upper ∙ ap (λ (k : ℕ). Up t.path k) shift) r.more.none
      (omega (arith, g, shift, bound_more s t.path (t.levels + r.further) y t.upper r.more.none))
      n (omega (arith, r.more.long, t.some)) u

  -- where y is not level with x
  pub else_known : (IsLevel x y → ⊥) → EndsPlainly p s x y → InUniverse p (bound s x)
  else_known unlike (level front f a l u) = absurd (unlike (record { front = front; exact = f; anchor = a; long = l }))
  else_known unlike (higher q k j a b z g n l u) = n
