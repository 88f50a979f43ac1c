-- The verdict of class Main { void main() { .. } } is that of its body.
use Rattle.std.proofs.Common.{◌≡◌, suc, List, [], ◌∷◌, length, Contains, Some, refl, sym, ap, ◌∙◌, subst, arith}
use Rattle.std.specs.Prelude.{Result, Ok, Err, slice_get}
use Rattle.jn_base.specs.declared.tree.Name.{Name}
use Rattle.jn_base.specs.declared.tree.Constraint.{Constraint}
use Rattle.jn_base.specs.declared.tree.Member.{Member, out-Member}
use Rattle.jn_base.specs.declared.tree.Member.TheOpen.{Member-F}
use Rattle.jn_base.specs.declared.tree.Member.TheVariants as member
use Rattle.jn_base.specs.declared.tree.Stmt.{Stmt}
use Rattle.jn_base.specs.declared.tree.Decl.{Decl}
use Rattle.jn_base.specs.declared.tree.Program.{Program}
use Rattle.jn_base.specs.declared.types.Ty.TheVariants as ty
use Rattle.jn_base.specs.declared.refusal.Refusal.{Refusal}
use Rattle.jn_base.specs.Paths.{Path}
use Rattle.jn_base.specs.Supers.{Sup, itself}
use Rattle.jn_base.specs.Members.{MethodAt, Decls, Least}
use Rattle.jn_base.specs.Duplicates.{duplicates}
use Rattle.jn_base.proofs.NameTests.{in_none, first as at_first, later as behind}
use Rattle.jn_sem.specs.Slots.{Slot}
use Rattle.jn_sem.specs.Does.{Body, IsBody, IsConstructorBody}
use Rattle.jn_rules.specs.Plans.{Plan, Nothing, in_turn}
use Rattle.jn_rules.specs.Questions.{Gives}
use Rattle.jn_rules.specs.Headers.{Header, header_typed, header_plan, decl_headers}
use Rattle.jn_rules.specs.Stmts.{Before, body_in, at_start, stmts_type, body_types, body_plan, decl_bodies}
use Rattle.jn_rules.specs.Forms.{member_headers, member_body}
use Rattle.jn_rules.specs.Members.{HasSignature, SameSignature, BadMethod, no_least, other_signature, BadField, empty_signature, missing_one, ConstructorPasses, HasBad, bad_method, bad_field, bad_constructor, BadClass, Entry, of_method_name, IsEntry, member as member_entry, method as method_entry, field as field_entry, counterpart as counterpart_entry, TooManyEntries, TooManySlots, FailsAt}
use Rattle.jn_rules.specs.Verdict.{HeadersPass, HasMain, TreePasses, TreeRefuses, bodies}
use Rattle.jn_rules.proofs.PlanLaws.{then_gives, then_refuses}
use Rattle.jn_rules.proofs.FormLaws.{decl_forms}
use Rattle.jn_rule_rows.specs.OneMain.{Main, main, main_method, main_class}
use Rattle.jn_rule_rows.proofs.OneMain.{p, stands_at, declared, sup_same, in_universe, main_there, method_at, its_method, no_field, table_passes}

abbrev pub the_body : List Stmt → Body
the_body ss = record { class = Main ∷ []; method = main_method ss }

abbrev pub the_header : Header
the_header = record { vars = []; result = ty.Void }

pub turn_one : (q : Program) (x : Plan Nothing) (o : Result Nothing Refusal) → Gives q x o → Gives q (in_turn (x ∷ [])) o
turn_one q x (Ok u) g = then_gives q x (λ y. in_turn []) u (Ok u) g refl
turn_one q x (Err r) g = then_refuses q x (λ y. in_turn []) r g

module _ (ss : List Stmt) where
  -- ---- headers and bodies

  header_of_main : Gives (p ss) (header_typed (the_body ss)) (Ok the_header)
  header_of_main = refl

  member_out : out-Member (member.Body (main_method ss)) ≡ Member-F.Body (main_method ss)
  member_out = member.outs-Body (main_method ss)

  decl_header : Gives (p ss) (decl_headers (main_class ss) []) (Ok tt)
  decl_header =
      subst (λ (x : Plan Nothing). Gives (p ss) x (Ok tt)) (sym (decl_forms (main_class ss) []).headers)
      (subst (λ (d : Member-F Member Decl). Gives (p ss) (in_turn (member_headers (Main ∷ []) d ∷ [])) (Ok tt)) (sym member_out) refl)

  header_passes : Gives (p ss) (header_plan (p ss)) (Ok tt)
  header_passes = turn_one (p ss) (decl_headers (main_class ss) []) (Ok tt) decl_header

  pub body_gives : (o : Result Nothing Refusal) → Gives (p ss) (body_types (the_body ss)) o → Gives (p ss) (body_plan (p ss)) o
  body_gives o g = turn_one (p ss) (decl_bodies (main_class ss) []) o
      (subst (λ (x : Plan Nothing). Gives (p ss) x o) (sym (decl_forms (main_class ss) []).bodies)
      (subst (λ (d : Member-F Member Decl). Gives (p ss) (in_turn (member_body (Main ∷ []) d ∷ [])) o) (sym member_out)
      (turn_one (p ss) (body_types (the_body ss)) o g)))

  -- ---- members

  same_body : (b : Body) (m : Name) → MethodAt (p ss) b.class m b.method → b ≡ the_body ss
  same_body b m h i = let e = method_at ss b.class m b.method h in record { class = e.0 i; method = e.2 i }

  at_main : (R Q : Path) (m : Name) → Decls (p ss) R m Q → (R ≡ Main ∷ []) × (Q ≡ Main ∷ []) × (m ≡ main)
  at_main R Q m d = let e = method_at ss Q m d.method d.at in (sym (sup_same ss d.super) ∙ e.0, e.0, e.1)

  least_at : (R Q : Path) (m : Name) → Decls (p ss) R m Q → Least (p ss) R m Q
  least_at R Q m d = record {
    among = d;
    below = λ S e. subst (Sup (p ss) Q) ((at_main R Q m d).1 ∙ sym (at_main R S m e).1) itself;
  }

  no_bad_method : (R : Path) (m : Name) → BadMethod (p ss) R m → ⊥
  no_bad_method R m (no_least h n) = n h.0 (least_at R h.0 m h.1)
  no_bad_method R m (other_signature b c i j n) =
      n (subst (λ (x : Body). SameSignature (p ss) x c) (sym (same_body b m i.at))
      (subst (λ (x : Body). SameSignature (p ss) (the_body ss) x) (sym (same_body c m j.at)) its_own)) where
        its_signature : HasSignature (p ss) (the_body ss) empty_signature
        its_signature = record { header = the_header; is = header_of_main; signature = refl }

        its_own : SameSignature (p ss) (the_body ss) (the_body ss)
        its_own = record { signature = empty_signature; one = its_signature; other = its_signature }

  no_bad_field : (R : Path) (f : Name) → BadField (p ss) R f → ⊥
  no_bad_field R f b = no_field ss b.one f b.at_one.field b.at_one.at

  head_is : (C : Name) (P : Path) → C ∷ P ≡ Main ∷ [] → C ≡ Main
  head_is C P e = cc

  apart : (C : Name) → C ≡ Main → C ≡ main → ⊥
  apart C e f = let g : Main ≡ main = sym e ∙ f in absurd (omega (arith, ap (λ (n : Name). n.0) g))

  no_constructor : (C : Name) (P : Path) → C ∷ P ≡ Main ∷ [] → (b : Body) → IsConstructorBody (p ss) (C ∷ P) b → ⊥
  no_constructor C P e b h = apart C (head_is C P e) (method_at ss b.class C b.method h.at).1

  constructor_passes : (C : Name) (P : Path) → C ∷ P ≡ Main ∷ [] → ConstructorPasses (p ss) C P
  constructor_passes C P e = record {
    signature = empty_signature;
    is = missing_one (no_constructor C P e) refl;
    void = refl;
    supers = λ Q s. missing_one (no_constructor C Q (sup_same ss s ∙ e)) refl;
  }

  no_bad : (R : Path) → R ≡ Main ∷ [] → HasBad (p ss) R → ⊥
  no_bad R e (bad_method m b) = no_bad_method R m b
  no_bad R e (bad_field f b) = no_bad_field R f b
  no_bad _ e (bad_constructor {C = C} {P = P} n) = n (constructor_passes C P e)

  no_bad_class : (R : Path) → BadClass (p ss) R → ⊥
  no_bad_class R b = no_bad R (in_universe ss R b.class.universe) b.bad

  -- ---- limits

  its_entry : Entry
  its_entry = of_method_name (Main ∷ []) main

  not_member : (C : Name) (R : Path) → R ≡ Main ∷ [] → C ∷ R ≡ Main ∷ [] → ⊥
  not_member C R e f = let g : suc (length R) ≡ 1 = ap length f in omega (arith, g, ap length e)

  one_entry : (x : Entry) → IsEntry (p ss) x → x ≡ its_entry
  unfolding its_entry
  one_entry _ (member_entry R C u m) =
      absurd (not_member C m.at (sup_same ss m.super ∙ in_universe ss R u) (stands_at ss (C ∷ m.at) m.declared.decl m.declared.stands).0)
  one_entry _ (method_entry R m u h) =
      let e = at_main R h.0 m h.1 in ap (λ (Q : Path). of_method_name Q m) e.0 ∙ ap (of_method_name (Main ∷ [])) e.2
  one_entry _ (field_entry R f u h) = absurd (no_field ss h.at f h.declares.field h.declares.at)
  one_entry _ (counterpart_entry R S r n) = absurd (n (in_universe ss R r.one.universe ∙ sym (in_universe ss S r.other.universe)))

  few_entries : TooManyEntries (p ss) → ⊥
  few_entries m = at m.list refl where
    at : (xs : List Entry) → m.list ≡ xs → ⊥
    at [] e = omega (arith, m.more, ap length e)
    at (a ∷ []) e = omega (arith, m.more, ap length e)
    at (a ∷ b ∷ xs) e =
        let ha = one_entry a (m.each a (subst (λ (ys : List Entry). Contains ys a) (sym e) (at_first a (b ∷ xs)))) in
        let hb = one_entry b (m.each b (subst (λ (ys : List Entry). Contains ys b) (sym e) (behind a (b ∷ xs) b (at_first b xs)))) in
        let i : slice_get m.list 0 ≡ Some a = ap (λ (ys : List Entry). slice_get ys 0) e in
        let j : slice_get m.list 1 ≡ Some a = ap (λ (ys : List Entry). slice_get ys 1) e ∙ ap (λ (z : Entry). Some z) (hb ∙ sym ha) in
        omega (arith, m.once 0 1 a i j)

  few_slots : (V : Path) → TooManySlots (p ss) V → ⊥
  few_slots V t = at t.more.list refl where
    at : (xs : List Slot) → t.more.list ≡ xs → ⊥
    at [] e = omega (arith, t.more.more, ap length e)
    at (a ∷ xs) e =
        let g = t.more.each a (subst (λ (ys : List Slot). Contains ys a) (sym e) (at_first a xs)) in
        let h = g.slot.first.holds.both.in_one in
        no_field ss h.at g.field h.declares.field h.declares.at

  no_failing : (R : Path) → FailsAt (p ss) R → ⊥
  no_failing R x =
      let f = x.1.1 in
      in_none f.constraint (subst (λ (cs : List Constraint). Contains cs f.constraint) (ap (λ (b : Body). b.method.sharing) (same_body x.1.0 x.0 f.body.at)) f.among)

  pub headers_pass : HeadersPass (p ss)
  headers_pass = record {
    limits = record {
      members = record { types = record { table = table_passes ss; headers = header_passes }; members = no_bad_class };
      entries = few_entries;
      slots = few_slots;
    };
    constraints = no_failing;
  }

  -- ---- Main

  pub its_decls : Decls (p ss) (Main ∷ []) main (Main ∷ [])
  its_decls = record { super = itself; method = main_method ss; at = its_method ss }

  pub its_body : IsBody (p ss) (Main ∷ []) main (the_body ss)
  its_body = record { least = least_at (Main ∷ []) (Main ∷ []) main its_decls; at = its_method ss }

  has_main : HasMain (p ss)
  has_main = record {
    main_class = Main;
    class_spelled = record { text = _; at = refl; is = refl };
    class = record { universe = main_there ss; kind = record { at = Main ∷ []; super = itself; decl = main_class ss; stands = declared ss; is = refl } };
    main = main;
    main_spelled = record { text = _; at = refl; is = refl };
    body = the_body ss;
    is = its_body;
    no_params = refl;
    void = refl;
    constructor = λ b h. absurd (no_constructor Main [] refl b h);
  }

  -- ---- the verdict

  pub passes : duplicates (p ss) ≡ [] → (y : Before) → Gives (p ss) (stmts_type (body_in (the_body ss) the_header) ss (at_start (the_body ss) the_header)) (Ok y)
      → TreePasses (p ss)
  passes e y g = record {
    bodies = record { once = e; headers = headers_pass; bodies = body_gives (Ok tt) (then_gives (p ss) (stmts_type (body_in (the_body ss) the_header) ss (at_start (the_body ss) the_header)) _ y (Ok tt) g refl) };
    main = has_main;
  }

  pub refuses : duplicates (p ss) ≡ [] → (r : Refusal) → Gives (p ss) (stmts_type (body_in (the_body ss) the_header) ss (at_start (the_body ss) the_header)) (Err r)
      → TreeRefuses (p ss) r
  refuses e r g = bodies e headers_pass (body_gives (Err r) (then_refuses (p ss) (stmts_type (body_in (the_body ss) the_header) ss (at_start (the_body ss) the_header)) _ r g))
