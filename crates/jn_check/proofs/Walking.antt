-- Going over the bodies of a program.
use Rattle.std.proofs.Common.{◌≡◌, ◌<◌, ◌≤◌, ◌+◌, ℕ, List, [], ◌∷◌, ◌++◌, length, map, refl, sym, ap, ◌∙◌, subst, reverse, drop, get_or, append_assoc, Result, Ok, Err}
use Rattle.std.proofs.lemmas.List.{append-nil, reverse-reverse}
use Rattle.std.proofs.Math.ListN.{drop_of_length-le}
use Rattle.jn_reach.specs.Each.{Each, none, more}
use Rattle.jn_base.specs.declared.tree.Decl.{Decl}
use Rattle.jn_base.specs.declared.tree.Field.{Field}
use Rattle.jn_base.specs.declared.tree.Method.{Method}
use Rattle.jn_base.specs.declared.tree.Member.{Member, out-Member, fold-Member}
use Rattle.jn_base.specs.declared.tree.Member.TheOpen.{Member-F}
use Rattle.jn_base.specs.declared.tree.Member.TheFolds.{map-Member, fold_out-Member, fold_out-Decl}
use Rattle.jn_base.specs.declared.tree.Member.TheVariants as member
use Rattle.jn_base.specs.declared.tree.Member.TheVariants.{outs-Slot}
use Rattle.jn_base.specs.declared.tree.Program.{Program}
use Rattle.jn_base.specs.declared.names.Resolved.{Resolved}
use Rattle.jn_base.specs.declared.path.Path.{Path as ShownPath}
use Rattle.jn_base.specs.Paths.{Path, shown}
use Rattle.jn_sem.specs.Does.{Body}
use Rattle.jn_agree.specs.Rows.{InOrder, of_member, one_by_one, of_decl, bodies_of}
use Rattle.jn_rules.specs.Plans.{Plan, done, Nothing, in_turn}
use Rattle.jn_rules.specs.Headers.{asked_at}
use Rattle.jn_rules.specs.Stmts.{body_types, decl_bodies, body_plan}
use Rattle.jn_rules.specs.Forms.{member_body, bodies_in}
use Rattle.jn_rules.specs.Resolved.{IsResolved}
use Rattle.jn_rules.proofs.PlanLaws.{notes_give}
use Rattle.jn_rules.proofs.FormLaws.{decl_forms}
use Rattle.jn_heads.specs.declared.fault.CheckFault.{CheckFault}
use Rattle.jn_heads.specs.declared.fault.CheckFault.TheVariants.{Refused, Memory}
use Rattle.jn_heads.proofs.Lists.{at_get}
use Rattle.jn_heads.proofs.Turns.{TurnsFrom, turns_more, turns_fail, turns_done}
use Rattle.jn_expr.specs.Calling.{body_of}
use Rattle.jn_check.specs.Bodies.{BodyTold}
use Rattle.jn_check.specs.Walk.{plan_of_member, plan_of_decl, bodies_at, bodies_of_member, bodies_of_decl, gathered, Known, KnownOr}

-- ---- bodies, one level deep

in_order_of : Member → InOrder
in_order_of = fold-Member InOrder InOrder of_member (λ d P. one_by_one d.members (d.name.name ∷ P))

opened : (R : Path) (f : Member-F Member Decl) → of_member (map-Member Member Decl InOrder InOrder in_order_of of_decl f) R ≡ bodies_at R f
opened R (Member-F.Inner d) = refl
opened R (Member-F.Slot f) = refl
opened R (Member-F.Body m) = refl

member_is : (R : Path) (m : Member) → in_order_of m R ≡ bodies_of_member R m
unfolding in_order_of of_decl
member_is R m =
    ap (λ (f : InOrder). f R) (fold_out-Member InOrder InOrder of_member (λ d P. one_by_one d.members (d.name.name ∷ P)) m)
    ∙ opened R (out-Member m)

members_are : (R : Path) (ms : List Member) → one_by_one (map in_order_of ms) R ≡ gathered (bodies_of_member R) ms
members_are R [] = refl
members_are R (m ∷ ms) =
    ap (λ (xs : List Body). xs ++ one_by_one (map in_order_of ms) R) (member_is R m)
    ∙ ap (λ (xs : List Body). bodies_of_member R m ++ xs) (members_are R ms)

decl_opened : (d : Decl) (P : Path) → of_decl d P ≡ one_by_one (map in_order_of d.members) (d.name.name ∷ P)
unfolding in_order_of of_decl
decl_opened d P = ap (λ (f : InOrder). f P) (fold_out-Decl InOrder InOrder of_member (λ e Q. one_by_one e.members (e.name.name ∷ Q)) d)

decl_is : (d : Decl) (P : Path) → of_decl d P ≡ gathered (bodies_of_member (d.name.name ∷ P)) d.members
decl_is d P = decl_opened d P ∙ members_are (d.name.name ∷ P) d.members

decls_are : (P : Path) (ds : List Decl) → one_by_one (map of_decl ds) P ≡ gathered (bodies_of_decl P) ds
decls_are P [] = refl
decls_are P (d ∷ ds) = ap (λ (xs : List Body). of_decl d P ++ xs) (decls_are P ds)

-- ---- what is asked, one level deep

plans_are : (R : Path) (ms : List Member) → bodies_in R ms ≡ map (plan_of_member R) ms
plans_are R [] = refl
plans_are R (m ∷ ms) = ap (λ (xs : List (Plan Nothing)). plan_of_member R m ∷ xs) (plans_are R ms)

plan_is : (d : Decl) (P : Path) → decl_bodies d P ≡ in_turn (map (plan_of_member (d.name.name ∷ P)) d.members)
plan_is d P = (decl_forms d P).bodies ∙ ap in_turn (plans_are (d.name.name ∷ P) d.members)

plans_of : (ds : List Decl) → map (plan_of_decl []) ds ≡ map (asked_at []) (map decl_bodies ds)
plans_of [] = refl
plans_of (d ∷ ds) = ap (λ (xs : List (Plan Nothing)). decl_bodies d [] ∷ xs) (plans_of ds)

-- ---- of another plan and other bodies that are the same

pub known_same : (p : Program) (x y : Plan Nothing) (bs cs : List Body) (before after : List Resolved) (r : Result Nothing CheckFault) → x ≡ y → bs ≡ cs
    → KnownOr p x bs before after r → KnownOr p y cs before after r
known_same p x y bs cs before after r e k h =
    subst (λ (z : Plan Nothing). KnownOr p z cs before after r) e (subst (λ (zs : List Body). KnownOr p x zs before after r) k h)

-- ---- one body

module _ (p : Program) (R : Path) (m : Method) (x : ShownPath) (e : x ≡ shown R) where
  -- the class of the body is the one that is kept
  class_is : reverse x.names ≡ R
  class_is = ap (λ (y : ShownPath). reverse y.names) e ∙ reverse-reverse R

  told_there : (r : Result Resolved CheckFault) → BodyTold p (body_of (reverse x.names) m) r → BodyTold p (body_of R m) r
  told_there r h = subst (λ (Q : Path). BodyTold p (body_of Q m) r) class_is h

  pub body_known : (r : Resolved) (before after : List Resolved) → BodyTold p (body_of (reverse x.names) m) (Ok r) → after ≡ before ++ r ∷ []
      → Known p (body_types (body_of R m)) (body_of R m ∷ []) before after
  body_known r before after h k =
      let is : IsResolved p (body_of R m) r = told_there (Ok r) h in
      record { gives = notes_give p (body_types (body_of R m)) is.marks tt is.noted; more = r ∷ []; is = k; each = more is none }

  pub body_fails : (f : CheckFault) (before after : List Resolved) → BodyTold p (body_of (reverse x.names) m) (Err f)
      → KnownOr p (body_types (body_of R m)) (body_of R m ∷ []) before after (Err f)
  body_fails f before after h = of f (told_there (Err f) h) where
    of : (g : CheckFault) → BodyTold p (body_of R m) (Err g) → KnownOr p (body_types (body_of R m)) (body_of R m ∷ []) before after (Err g)
    of (Refused r) k = k
    of Memory k = tt

-- ---- a loop over members, or over declarations

each_joined : {A B : Type 0} (R : A → B → Type 0) {xs ys : List A} {us vs : List B} → Each R xs us → Each R ys vs → Each R (xs ++ ys) (us ++ vs)
each_joined R none h = h
each_joined R (more r g) h = more r (each_joined R g h)

-- what is known of all, by what is known of those from i on
pub record KnownFrom {A : Type 0} (p : Program) (bodies : A → List Body) (xs : List A) (i : ℕ) (before now : List Resolved) : Type 0 where
  pub more : List Resolved
  pub is : now ≡ before ++ more
  pub all : (ms : List Resolved) → Each (IsResolved p) (gathered bodies (drop i xs)) ms → Each (IsResolved p) (gathered bodies xs) (more ++ ms)

pub record WalkFrom {A : Type 0} (p : Program) (plan : A → Plan Nothing) (bodies : A → List Body) (xs : List A) (i : ℕ) (before now : List Resolved) : Type 0 where
  pub turns : TurnsFrom p plan xs i
  pub known : KnownFrom p bodies xs i before now

module _ {A : Type 0} (p : Program) (plan : A → Plan Nothing) (bodies : A → List Body) (xs : List A) where
  pub walk_more : (i : ℕ) (x : A) (before now after : List Resolved) → i < length xs → x ≡ get_or xs i x → WalkFrom p plan bodies xs i before now
      → Known p (plan x) (bodies x) now after → WalkFrom p plan bodies xs (i + 1) before after
  walk_more i x before now after l e so h = record {
    turns = turns_more p plan xs i so.turns x l e h.gives;
    known = record {
      more = so.known.more ++ h.more;
      is = h.is ∙ (ap (λ (o : List Resolved). o ++ h.more) so.known.is ∙ append_assoc before so.known.more h.more);
      all = λ ms g.
          subst (λ (zs : List Resolved). Each (IsResolved p) (gathered bodies xs) zs) (sym (append_assoc so.known.more h.more ms))
          (so.known.all (h.more ++ ms)
          (subst (λ (ys : List A). Each (IsResolved p) (gathered bodies ys) (h.more ++ ms)) (sym next_is) (each_joined (IsResolved p) h.each g)));
    };
  }
    where
      next_is : drop i xs ≡ x ∷ drop (i + 1) xs
      next_is = at_get xs i x l ∙ ap (λ (y : A). y ∷ drop (i + 1) xs) (sym e)

  pub walk_fail : (i : ℕ) (x : A) (f : CheckFault) (before now after : List Resolved) → i < length xs → x ≡ get_or xs i x → WalkFrom p plan bodies xs i before now
      → KnownOr p (plan x) (bodies x) now after (Err f) → KnownOr p (in_turn (map plan xs)) (gathered bodies xs) before after (Err f)
  walk_fail i x (Refused r) before now after l e so h = turns_fail p plan xs i so.turns x (Refused r) l e h
  walk_fail i x Memory before now after l e so h = tt

  pub walk_done : (i : ℕ) (before now : List Resolved) → length xs ≤ i → WalkFrom p plan bodies xs i before now
      → Known p (in_turn (map plan xs)) (gathered bodies xs) before now
  walk_done i before now l so = record {
    gives = turns_done p plan xs i so.turns l;
    more = so.known.more;
    is = so.known.is;
    each = subst (λ (zs : List Resolved). Each (IsResolved p) (gathered bodies xs) zs) (append-nil so.known.more)
        (so.known.all [] (subst (λ (ys : List A). Each (IsResolved p) (gathered bodies ys) []) (sym (drop_of_length-le xs l)) none));
  }

-- ---- a member, a declaration, the whole program

pub slot_known : (p : Program) (R : Path) (m : Member) (out : List Resolved) (f : Field) → m ≡ member.Slot f
    → KnownOr p (plan_of_member R m) (bodies_of_member R m) out out (Ok tt)
slot_known p R m out f e =
    known_same p (done tt) _ [] _ out out (Ok tt) (sym (ap (plan_of_member R) e ∙ ap (member_body R) (outs-Slot f)))
    (sym (ap (bodies_of_member R) e ∙ ap (bodies_at R) (outs-Slot f))) (record { gives = refl; more = []; is = sym (append-nil out); each = none })

pub decl_told : (p : Program) (d : Decl) (P R Q : Path) (ms : List Member) (before after : List Resolved) (r : Result Nothing CheckFault) → R ≡ d.name.name ∷ Q → Q ≡ P
    → ms ≡ d.members → KnownOr p (in_turn (map (plan_of_member R) ms)) (gathered (bodies_of_member R) ms) before after r
    → KnownOr p (decl_bodies d P) (of_decl d P) before after r
decl_told p d P R Q ms before after r e k i h =
    let S : Path = d.name.name ∷ P in
    let at : R ≡ S = e ∙ ap (λ (T : Path). d.name.name ∷ T) k in
    known_same p _ _ _ _ before after r (sym (plan_is d P)) (sym (decl_is d P))
    (subst (λ (T : Path). KnownOr p (in_turn (map (plan_of_member T) d.members)) (gathered (bodies_of_member T) d.members) before after r) at
    (subst (λ (xs : List Member). KnownOr p (in_turn (map (plan_of_member R) xs)) (gathered (bodies_of_member R) xs) before after r) i h))

pub program_told : (p : Program) (P : Path) (ds : List Decl) (before after : List Resolved) (r : Result Nothing CheckFault) → P ≡ [] → ds ≡ p.decls
    → KnownOr p (in_turn (map (plan_of_decl P) ds)) (gathered (bodies_of_decl P) ds) before after r → KnownOr p (body_plan p) (bodies_of p) before after r
program_told p P ds before after r e i h =
    known_same p _ _ _ _ before after r (ap in_turn (plans_of p.decls)) (sym (decls_are [] p.decls))
    (subst (λ (T : Path). KnownOr p (in_turn (map (plan_of_decl T) p.decls)) (gathered (bodies_of_decl T) p.decls) before after r) e
    (subst (λ (xs : List Decl). KnownOr p (in_turn (map (plan_of_decl P) xs)) (gathered (bodies_of_decl P) xs) before after r) i h))
