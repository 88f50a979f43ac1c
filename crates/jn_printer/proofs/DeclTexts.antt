-- The equations of declarations' texts, one level deep.
use Rattle.std.proofs.Common.{◌≡◌, ℕ, List, ◌++◌, map, ap, ◌∙◌}
use Rattle.std.specs.Prelude.{codes}
use Rattle.jn_base.specs.declared.tree.Text.{Text}
use Rattle.jn_base.specs.declared.tree.Field.{Field}
use Rattle.jn_base.specs.declared.tree.Method.{Method}
use Rattle.jn_base.specs.declared.tree.Decl.{Decl}
use Rattle.jn_base.specs.declared.tree.Member.{Member, out-Member}
use Rattle.jn_base.specs.declared.tree.Member.TheOpen.{Member-F}
use Rattle.jn_base.specs.declared.tree.Member.TheFolds.{map-Member, fold_out-Member, fold_out-Decl}
use Rattle.jn_base.specs.declared.tree.Member.TheVariants as member
use Rattle.jn_base.specs.declared.tree.Member.TheVariants.{outs-Inner, outs-Slot, outs-Body}
use Rattle.jn_printer.specs.StmtText.{Indented, braced}
use Rattle.jn_printer.specs.DeclText.{heading_text, field_text, method_text, member_step, decl_step, member_text, decl_text}

pub decl_parts : (ns ts : List Text) (d : Decl) (indent : List ℕ) → decl_text ns ts d indent
    ≡ heading_text ns d.kind d.name d.extends d.shares d.adapts ++ (codes " " ++ braced indent (map (member_text ns ts) d.members))
unfolding decl_text member_text
decl_parts ns ts d indent = ap (λ (w : Indented). w indent) (fold_out-Decl Indented Indented (member_step ns ts) (decl_step ns ts) d)

from : (ns ts : List Text) (m : Member) (f : Member-F Member Decl) → out-Member m ≡ f → (indent : List ℕ)
    → member_text ns ts m indent ≡ member_step ns ts (map-Member Member Decl Indented Indented (member_text ns ts) (decl_text ns ts) f) indent
unfolding decl_text member_text
from ns ts m f e indent =
    ap (λ (w : Indented). w indent) (fold_out-Member Indented Indented (member_step ns ts) (decl_step ns ts) m)
    ∙ ap (λ (x : Member-F Member Decl). member_step ns ts (map-Member Member Decl Indented Indented (member_text ns ts) (decl_text ns ts) x) indent) e

pub inner_text : (ns ts : List Text) (d : Decl) (indent : List ℕ) → member_text ns ts (member.Inner d) indent ≡ decl_text ns ts d indent
inner_text ns ts d indent = from ns ts (member.Inner d) _ (outs-Inner d) indent

pub slot_text : (ns ts : List Text) (f : Field) (indent : List ℕ) → member_text ns ts (member.Slot f) indent ≡ field_text ns f
slot_text ns ts f indent = from ns ts (member.Slot f) _ (outs-Slot f) indent

pub body_member : (ns ts : List Text) (m : Method) (indent : List ℕ) → member_text ns ts (member.Body m) indent ≡ method_text ns ts m indent
body_member ns ts m indent = from ns ts (member.Body m) _ (outs-Body m) indent
