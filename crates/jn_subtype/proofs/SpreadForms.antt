-- The atoms with the inexact names of a super.
use Rattle.std.proofs.Common.{◌≡◌, ◌↔◌, ◌-◌, ℕ, List, [], length, take, drop, reverse, Contains, sym, ap, ◌∙◌, subst, arith}
use Rattle.std.proofs.lemmas.List.{length-reverse}
use Rattle.jn_base.specs.declared.tree.Name.{Name}
use Rattle.jn_base.specs.declared.tree.Program.{Program}
use Rattle.jn_base.specs.Paths.{Path}
use Rattle.jn_base.specs.Supers.{Sup}
use Rattle.jn_base.specs.Atoms.{Atom, atom}
use Rattle.jn_base.specs.Scopes.{Scope, bound}
use Rattle.jn_sem.specs.Search.{Spreads, spread}
use Rattle.jn_sem.proofs.Turning.{spreads_by, by_super}
use Rattle.jn_subtype.specs.Turns.{Adds}
use Rattle.jn_subtype.proofs.Addings.{FromOne, adds_all}
use Rattle.jn_subtype.proofs.ClimbForms.{back_is, to_end}

-- z with the inexact names of R, which has the outer names
abbrev pub HasOuter : Atom → Path → Path → Atom → Type 0
HasOuter z outer R w = (drop (length z.names) R ≡ outer) × (w ≡ spread z R)

-- as the code makes it
pub spread_is : (z : Atom) (R : Path) (exact inexact names : List Name) (from : ℕ) → reverse exact ≡ z.exact
    → reverse inexact ≡ z.names → reverse names ≡ R
    → from ≡ length names - length inexact
    → atom z.anchor (reverse exact) (reverse (take (length names - from) (drop from names))) ≡ spread z R
spread_is z R exact inexact names from e n m f =
    let few : length inexact ≡ length z.names = sym (length-reverse inexact) ∙ ap length n in
    ap (λ (ns : List Name). atom z.anchor (reverse exact) (reverse ns)) (to_end from names)
    ∙ ap (λ (es : List Name). atom z.anchor es (reverse (drop from names))) e
    ∙ ap (λ (ns : List Name). atom z.anchor z.exact ns) (back_is from (length z.names) names (omega (arith, f, few)) ∙ ap (take (length z.names)) m)

-- those so found are the ends of one step of kind 4 or none
pub spreads_found : {p : Program} {s : Scope} (z : Atom) (outer : Path) (supers : List Path) (ws : List Atom)
    → ((R : Path) → Contains supers R ↔ Sup p (bound s z) R)
    → outer ≡ drop (length z.names) (bound s z) → Adds (FromOne (HasOuter z outer) supers) [] ws → (w : Atom)
    → Contains ws w ↔ Spreads p s z w
spreads_found {p} {s} z outer supers ws each o a w = (to, back) where
  to : Contains ws w → Spreads p s z w
  to h =
      let u = (adds_all a w).0 h in
      subst (Spreads p s z) (sym u.by.1) (spreads_by z u.origin ((each u.origin).0 u.among) (u.by.0 ∙ o))

  back : Spreads p s z w → Contains ws w
  back h =
      let u = by_super h in
      (adds_all a w).1 (record { origin = u.above; among = (each u.above).1 u.super; by = (u.outer ∙ sym o, u.is) })
