-- What stands behind each statement, by the rules alone.
use Rattle.std.proofs.Common.{◌≡◌, ◌≤◌, ℕ, suc, List, [], ◌∷◌, ◌++◌, length, map, Option, Some, None, Bool, true, false, ◌⊎◌, inl, inr, refl, sym, ap, ◌∙◌, subst, arith}
use Rattle.std.proofs.lemmas.List.{append-nil, append_assoc}
use Rattle.std.specs.Prelude.{◌-◌, ◌&&◌, ◌||◌, not, drop, cond, nat_eq, Result, Ok}
use Rattle.jn_base.specs.declared.tree.Named.{Named}
use Rattle.jn_base.specs.declared.tree.Place.{Place}
use Rattle.jn_base.specs.declared.tree.Program.{Program}
use Rattle.jn_base.specs.declared.tree.TypeTerm.{TypeTerm}
use Rattle.jn_base.specs.declared.tree.Expr.{Expr}
use Rattle.jn_base.specs.declared.tree.Stmt.{Stmt, roll-Stmt}
use Rattle.jn_base.specs.declared.tree.Stmt.TheOpen.{Stmt-F}
use Rattle.jn_base.specs.declared.tree.Stmt.TheFolds.{map-Stmt, ind-Stmt, para-roll-Stmt}
use Rattle.jn_base.specs.declared.tree.Stmt.TheVariants as stmt
use Rattle.jn_base.specs.declared.types.Masks.{Masks}
use Rattle.jn_base.specs.declared.types.Ty.{Ty}
use Rattle.jn_base.specs.declared.types.Ty.TheVariants as ty
use Rattle.jn_base.specs.declared.tree.Name.{Name}
use Rattle.jn_base.specs.declared.names.Var.{Var}
use Rattle.jn_base.specs.declared.refusal.Refusal.{Refusal}
use Rattle.jn_base.specs.Atoms.{atoms_in, HasMask, MasksWithin}
use Rattle.jn_base.specs.Scopes.{Bind, Scope}
use Rattle.jn_base.specs.Resolve.{is_class, var_named}
use Rattle.jn_sem.specs.Acts.{InBody, in_body, with_work, path_behind, stmt_step}
use Rattle.jn_sem.specs.Does.{var}
use Rattle.jn_rules.specs.Plans.{Plan, Mark, EitherMasks, VarMark, done, note, note_all, ask}
use Rattle.jn_rules.specs.Questions.{Gives, masks_of}
use Rattle.jn_rules.specs.Exprs.{masks_at, path_of, site_here, is_int, is_bool}
use Rattle.jn_rules.specs.Stmts.{In, Before, here, typed, stmt_types, stmts_type, out_of, block_typed, run_through, condition, choice_typed, loop_typed, joined, joined_type, remasked, with_masks, dropped, is_variable, with_local, local_typed, atom_marks, set_with, typed_below, assign_typed, is_void, without_mask}
use Rattle.jn_rules.specs.Headers.{declared_type}
use Rattle.jn_rules.proofs.FormLaws.{forms_are}
use Rattle.jn_rules.proofs.PlanLaws.{then_came, wanted, took, found_was}
use Rattle.jn_rule_laws.specs.LawsOfForms.{Grown, none as none_more, more as one_more}
use Rattle.jn_rule_laws.specs.Behind.{BindApart, MasksApart, none as apart_none, one as apart_one, Over, Moved, StatementsMove}
use Rattle.jn_rule_laws.proofs.MaskNumbers.{formed_of, mask_small}

-- ---- answers

pub same_before : (x y : Before) →
    (let a : Result Before Refusal = Ok y in let c : Result Before Refusal = Ok x in a ≡ c) → y ≡ x
same_before x y e = cc

pub noted : {A : Type 0} (p : Program) (ms : List Mark) (go : Plan A) (o : Result A Refusal)
    → Gives p (note_all ms go) o
    → Gives p go o
noted p [] go o g = g
noted p (m ∷ ms) go o g = noted p ms go o g

-- ---- scopes

pub apart_itself : (s : Scope) → MasksApart s s
apart_itself [] = apart_none
apart_itself (b ∷ s) =
    apart_one (record { path = refl; atoms = refl; class = refl; plain = λ e. refl; fewer = λ i h. h })
    (apart_itself s)

pub apart_joined : {s t u : Scope} → MasksApart s t → MasksApart t u → MasksApart s u
apart_joined apart_none h = h
apart_joined (apart_one a g) (apart_one c h) =
    apart_one (record {
      path = c.path ∙ a.path;
      atoms = c.atoms ∙ a.atoms;
      class = c.class ∙ a.class;
      plain = λ e. c.plain (a.class ∙ e) ∙ a.plain e;
      fewer = λ i h. a.fewer i (c.fewer i h);
    }) (apart_joined g h)

pub over_itself : (s : Scope) → Over s s
over_itself s = record { old = s; apart = apart_itself s; grown = none_more }

pub over_apart : {s t : Scope} → MasksApart s t → Over s t
over_apart {t = t} a = record { old = t; apart = a; grown = none_more }

-- what lies under a scope like it
record Under (o t : Scope) : Type 0 where
  old : Scope
  apart : MasksApart o old
  grown : Grown old t

under : {o s t : Scope} → Grown o s → MasksApart s t → Under o t
under {t = t} none_more a = record { old = t; apart = a; grown = none_more }
under (one_more g) (apart_one a h) =
    let r = under g h in
    record { old = r.old; apart = r.apart; grown = one_more r.grown }

grown_joined : {s t u : Scope} → Grown s t → Grown t u → Grown s u
grown_joined g none_more = g
grown_joined g (one_more k) = one_more (grown_joined g k)

pub over_joined : {s t u : Scope} → Over s t → Over t u → Over s u
over_joined a b = let r = under a.grown b.apart in
    record { old = r.old; apart = apart_joined a.apart r.apart; grown = grown_joined r.grown b.grown }

-- what a block leaves of its scope
apart_long : {s t : Scope} → MasksApart s t → length s ≡ length t
apart_long apart_none = refl
apart_long (apart_one a h) = ap suc (apart_long h)

grown_long : {o t : Scope} → Grown o t → length o ≤ length t
grown_long none_more = omega arith
grown_long (one_more g) = let l = grown_long g in omega (arith, l)

none_less : (n : ℕ) → n - n ≡ 0
none_less n = omega arith

one_less : (n m : ℕ) → m ≤ n → suc n - m ≡ suc (n - m)
one_less n m l = omega (arith, l)

pub dropped_grown : {o t : Scope} → Grown o t → drop (length t - length o) t ≡ o
dropped_grown {o = o} none_more = ap (λ (n : ℕ). drop n o) (none_less (length o))
dropped_grown {o = o} (one_more {t = t} {b = b} g) =
    ap (λ (n : ℕ). drop n (b ∷ t)) (one_less (length t) (length o) (grown_long g)) ∙ dropped_grown g

pub left_over : (x y : Before) (o : Over x.scope y.scope) → (out_of x y).scope ≡ o.old
left_over x y o =
    ap (λ (n : ℕ). drop (length y.scope - n) y.scope) (apart_long o.apart) ∙ dropped_grown o.grown

-- ---- masks

record RemaskedAs (m : Masks) (t : Ty) : Type 0 where
  atoms : atoms_in (remasked m t) ≡ atoms_in t
  class : is_class (remasked m t) ≡ is_class t
  plain : is_class t ≡ false → remasked m t ≡ t
  has : (i : ℕ) → HasMask (masks_of (remasked m t)) i → HasMask m i ⊎ HasMask (masks_of t) i

remasked_as : (m : Masks) (t : Ty) → RemaskedAs m t
remasked_as m (ty.Class xs n) = record { atoms = refl; class = refl; plain = λ e. absurd (no e); has = λ i h. inl h }
  where
    no : true ≡ false → ⊥
    no e = cc
remasked_as m ty.Int = record { atoms = refl; class = refl; plain = λ e. refl; has = λ i h. inr h }
remasked_as m ty.Bool = record { atoms = refl; class = refl; plain = λ e. refl; has = λ i h. inr h }
remasked_as m ty.Null = record { atoms = refl; class = refl; plain = λ e. refl; has = λ i h. inr h }
remasked_as m ty.Void = record { atoms = refl; class = refl; plain = λ e. refl; has = λ i h. inr h }

-- a bind that is apart from o gets masks that o has
remasked_apart : (o b : Bind) (m : Masks) → BindApart o b → MasksWithin m (masks_of o.ty) → BindApart o
    (record b { ty = remasked m b.ty })
remasked_apart o b m a w = let r = remasked_as m b.ty in record {
  path = a.path;
  atoms = r.atoms ∙ a.atoms;
  class = r.class ∙ a.class;
  plain = λ e. r.plain (a.class ∙ e) ∙ a.plain e;
  fewer = λ i h. either i (r.has i h);
} where
  either : (i : ℕ) → HasMask m i ⊎ HasMask (masks_of b.ty) i → HasMask (masks_of o.ty) i
  either i (inl h) = w i h
  either i (inr h) = a.fewer i h

bind_itself : (b : Bind) → BindApart b b
bind_itself b = record { path = refl; atoms = refl; class = refl; plain = λ e. refl; fewer = λ i h. h }

pub masks_apart : (s : Scope) (q : ℕ) (m : Masks) → MasksWithin m (masks_at s q) → MasksApart s (with_masks s q m)
masks_apart [] q m w = apart_none
masks_apart (b ∷ s) q m w = at (nat_eq q b.path) w (masks_apart s q m) where
  at : (c : Bool) → MasksWithin m (cond c (masks_of b.ty) (masks_at s q))
      → (MasksWithin m (masks_at s q) → MasksApart s (with_masks s q m)) → MasksApart (b ∷ s)
      (cond c (record b { ty = remasked m b.ty } ∷ s) (b ∷ with_masks s q m))
  at true w h = apart_one (remasked_apart b b m (bind_itself b) w) (apart_itself s)
  at false w h = apart_one (bind_itself b) (h w)

pub same_of : {A : Type 0} (x y : A)
    → (let a : Result A Refusal = Ok y in let c : Result A Refusal = Ok x in a ≡ c) → y ≡ x
same_of x y e = cc

joined_bind : (p : Program) (o b c : Bind) (u : Ty) → BindApart o b → BindApart o c
    → Gives p (joined_type b.ty c.ty) (Ok u) → BindApart o (record b { ty = u })
joined_bind p o b c u a d g = at (is_class b.ty && is_class c.ty) g where
  either : (i : ℕ) → HasMask (masks_of b.ty) i ⊎ HasMask (masks_of c.ty) i → HasMask (masks_of o.ty) i
  either i (inl h) = a.fewer i h
  either i (inr h) = d.fewer i h

  at : (k : Bool) → Gives p (cond k (ask (EitherMasks (masks_of b.ty) (masks_of c.ty)) (λ m. done (remasked m b.ty)))
      (done b.ty)) (Ok u) → BindApart o (record b { ty = u })
  at true g = subst (λ (w : Ty). BindApart o (record b { ty = w })) (sym (same_of (remasked g.0 b.ty) u g.2))
      (remasked_apart o b g.0 a (λ i h. either i ((g.1.each i (mask_small g.0 (formed_of _ g.0 g.1) i h)).0 h)))
  at false g = subst (λ (w : Ty). BindApart o (record b { ty = w })) (sym (same_of b.ty u g)) a

pub joined_apart : (p : Program) (x s t u : Scope) → MasksApart x s → MasksApart x t → Gives p (joined s t) (Ok u)
    → MasksApart x u
joined_apart p [] [] t u a d g = subst (MasksApart []) (sym (same_of [] u g)) apart_none
joined_apart p [] (b ∷ s) t u a d g = elim a [ ]
joined_apart p (o ∷ x) [] t u a d g = elim a [ ]
joined_apart p (o ∷ x) (b ∷ s) [] u a d g = elim d [ ]
joined_apart p (o ∷ x) (b ∷ s) (c ∷ t) u (apart_one a q) (apart_one d r) g =
    let z = then_came (joined_type b.ty c.ty) _ u g in
    let y = then_came (joined s t) _ u z.then in
    subst (MasksApart (o ∷ x)) (sym (same_of _ u y.then))
    (apart_one (joined_bind p o b c z.first a d z.gave) (joined_apart p x s t y.first q r y.gave))

-- ---- what moved

-- one that leaves the variables and the paths as they are
pub record Level (x y : Before) (path : ℕ) : Type 0 where
  pub vars : y.vars ≡ x.vars
  pub apart : MasksApart x.scope y.scope
  pub next : y.next ≡ path
  pub grows : x.next ≤ y.next

moved_level : (x y : Before) (path : ℕ) → Level x y path → Moved x y path
moved_level x y path l = record {
  more = [];
  vars = l.vars ∙ sym (append-nil x.vars);
  over = over_apart l.apart;
  next = l.next;
  grows = l.grows;
}

level_same : (x y : Before) (path : ℕ) → y ≡ x → path ≡ x.next → Level x y path
level_same x y path e n = subst (λ (z : Before). Level x z path) (sym e)
    (record { vars = refl; apart = apart_itself x.scope; next = sym n; grows = omega arith })

moved_on : (x m y : Before) (one two : ℕ) → Moved x m one → Moved m y two → Moved x y two
moved_on x m y one two a c = record {
  more = a.more ++ c.more;
  vars = c.vars ∙ ap (λ (vs : List Var). vs ++ c.more) a.vars ∙ append_assoc x.vars a.more c.more;
  over = over_joined a.over c.over;
  next = c.next;
  grows = let k = a.grows in let l = c.grows in omega (arith, k, l);
}

after_is : (s : Stmt) (f : Stmt-F Stmt) → roll-Stmt f ≡ s → (n : ℕ) → (in_body s).path_after n ≡ (stmt_step
    (map-Stmt Stmt (Stmt × InBody) with_work f)).path_after n
after_is s f e n = ap (λ (t : Stmt). (in_body t).path_after n) (sym e)
    ∙ ap (λ (x : InBody). x.path_after n) (para-roll-Stmt InBody stmt_step f)

module _ (p : Program) (b : In) where
  abbrev StmtMoves : Stmt → Type 0
  StmtMoves s = (x y : Before) → Gives p (stmt_types b s x) (Ok y) → Moved x y ((in_body s).path_after x.next)

  abbrev Told : Type 0
  Told = List ((s : Stmt) × StmtMoves s)

  abbrev trees_of : Told → List Stmt
  trees_of ss = map (λ s. s.0) ss

  asked : (s : Stmt) (x y : Before) (z : Plan Before) → stmt_types b s x ≡ z → Gives p (stmt_types b s x) (Ok y) →
      Gives p z (Ok y)
  asked s x y z is g = subst (λ (w : Plan Before). Gives p w (Ok y)) is g

  stmts_move : (ss : Told) (x y : Before) → Gives p (stmts_type b (trees_of ss) x) (Ok y) → Moved x y
      (path_behind (trees_of ss) x.next)
  stmts_move [] x y g = moved_level x y x.next (level_same x y x.next (same_before x y g) refl)
  stmts_move (s ∷ ss) x y g =
      let c = then_came (stmt_types b s.0 x) (stmts_type b (trees_of ss)) y g in
      let one = s.1 x c.first c.gave in
      subst (λ (n : ℕ). Moved x y (path_behind (trees_of ss) n)) one.next
      (moved_on x c.first y _ _ one (stmts_move ss c.first y c.then))

  -- a block
  block_moves : (ss : Told) (x y : Before) → Gives p (block_typed (map (stmt_types b) (trees_of ss)) x) (Ok y) →
      Level x y (path_behind (trees_of ss) x.next)
  block_moves ss x y g =
      let c = then_came (run_through (map (stmt_types b) (trees_of ss)) x) (λ z. done (out_of x z)) y g in
      let m = stmts_move ss x c.first c.gave in
      subst (λ (z : Before). Level x z (path_behind (trees_of ss) x.next))
      (sym (same_before (out_of x c.first) y c.then))
      (record {
        vars = refl;
        apart = subst (MasksApart x.scope) (sym (left_over x c.first m.over)) m.over.apart;
        next = m.next;
        grows = m.grows;
      })

  -- one that changes nothing but masks
  keeps : (s : Stmt) (f : Stmt-F Stmt) → roll-Stmt f ≡ s
      → ((n : ℕ) → (stmt_step (map-Stmt Stmt (Stmt × InBody) with_work f)).path_after n ≡ n) → (x y : Before) → y ≡ x
      → Moved x y ((in_body s).path_after x.next)
  keeps s f e is x y same = moved_level x y _ (level_same x y _ same (after_is s f e x.next ∙ is x.next))

  -- ---- each form

  move_block : (ss : Told) → StmtMoves (stmt.Block (trees_of ss))
  move_block ss x y g = subst (Moved x y) (sym (after_is _ _ (stmt.rolls-Block (trees_of ss)) x.next))
      (moved_level x y _ (block_moves ss x y (asked _ x y _ ((forms_are.stmts b x).block (trees_of ss)) g)))

  move_print : (e : Expr) (at : Place) → StmtMoves (stmt.Print e at)
  move_print e at x y g =
      let c = then_came (typed b x e x.scope) _ y (asked _ x y _ ((forms_are.stmts b x).prints e at) g) in
      let w = wanted (is_int c.first.ty || is_bool c.first.ty) _ _ y c.then in
      keeps _ _ (stmt.rolls-Print e at) (λ n. refl) x y (same_before x y w.then)

  move_text : (t : ℕ) (at : Place) → StmtMoves (stmt.PrintText t at)
  move_text t at x y g = keeps _ _ (stmt.rolls-PrintText t at) (λ n. refl) x y
      (same_before x y (asked _ x y _ ((forms_are.stmts b x).prints_text t at) g))

  move_do : (e : Expr) → StmtMoves (stmt.Do e)
  move_do e x y g =
      let c = then_came (typed b x e x.scope) _ y (asked _ x y _ ((forms_are.stmts b x).call e) g) in
      keeps _ _ (stmt.rolls-Do e) (λ n. refl) x y (same_before x y c.then)

  below_same : (e : Expr) (x y z : Before) (s : Scope) (t : Ty) → Gives p (typed_below b x e s t (done z)) (Ok y)
      → y ≡ z
  below_same e x y z s t g =
      let c = then_came (typed b x e s) _ y g in
      let w = wanted c.then.0 _ _ y c.then.2 in
      same_before z y w.then

  move_return : (e : Option Expr) (at : Place) → StmtMoves (stmt.Return e at)
  move_return None at x y g =
      let w = wanted (is_void b.result) _ _ y (asked _ x y _ ((forms_are.stmts b x).returns None at) g) in
      keeps _ _ (stmt.rolls-Return None at) (λ n. refl) x y (same_before x y w.then)
  move_return (Some e) at x y g =
      let c = then_came (typed b x e x.scope) _ y (asked _ x y _ ((forms_are.stmts b x).returns (Some e) at) g) in
      let w = wanted (not (is_void b.result)) _ _ y c.then in
      let u = wanted w.then.0 _ _ y w.then.2 in
      keeps _ _ (stmt.rolls-Return (Some e) at) (λ n. refl) x y (same_before x y u.then)

  move_assign : (n : Named) (e : Expr) → StmtMoves (stmt.Assign n e)
  move_assign n e x y g = keeps _ _ (stmt.rolls-Assign n e) (λ k. refl) x y
      (at (var_named (record { list = x.vars }) n.name) (asked _ x y _ ((forms_are.stmts b x).assign n e) g)) where
        at : (o : Option Var) → Gives p (assign_typed b x n e o) (Ok y) → y ≡ x
        at None g = absurd (no g) where
          no : Gives p (assign_typed b x n e None) (Ok y) → ⊥
          no e = cc
        at (Some v) g =
            let w = wanted (not v.fixed) _ (note (VarMark v.path) (typed_below b x e x.scope v.ty (done x))) y g in
            below_same e x y x x.scope v.ty w.then

  move_local : (fixed : Bool) (t : TypeTerm) (n : Named) (e : Expr) → StmtMoves (stmt.Local fixed t n e)
  move_local fixed t n e x y g =
      let a = asked _ x y _ ((forms_are.stmts b x).local fixed t n e) g in
      let r = took a.0 (local_typed b x fixed n e) y a.2 in
      let v : Var = var n.name x.next fixed (declared_type (site_here (here b x)) r.given) in
      let is = below_same e x y (with_local x v) x.scope v.ty (noted p (atom_marks r.given) _ (Ok y) r.then) in
      subst (λ (k : ℕ). Moved x y k) (sym (after_is _ _ (stmt.rolls-Local fixed t n e) x.next))
      (subst (λ (z : Before). Moved x z (suc x.next)) (sym is) (record {
        more = v ∷ [];
        vars = refl;
        over = record { old = x.scope; apart = apart_itself x.scope; grown = one_more none_more };
        next = refl;
        grows = omega arith;
      }))

  -- ---- a store, which may take a mask off

  record OnlyMasks (x y : Before) : Type 0 where
    vars : y.vars ≡ x.vars
    apart : MasksApart x.scope y.scope
    next : y.next ≡ x.next

  only_same : (x y : Before) → y ≡ x → OnlyMasks x y
  only_same x y e = subst (OnlyMasks x) (sym e) (record { vars = refl; apart = apart_itself x.scope; next = refl })

  drop_moves : (x y : Before) (f : Name) (o : Option ℕ) → Gives p (dropped x f o) (Ok y) → OnlyMasks x y
  drop_moves x y f None g = only_same x y (same_before x y g)
  drop_moves x y f (Some q) g = at (is_variable q) g where
    at : (c : Bool) → Gives p (cond c (without_mask x f q) (done x)) (Ok y) → OnlyMasks x y
    at false g = only_same x y (same_before x y g)
    at true g = subst (OnlyMasks x) (sym (same_before (record x { scope = with_masks x.scope q g.0 }) y g.2))
        (record {
          vars = refl;
          apart = masks_apart x.scope q g.0
              (λ i h. ((g.1.each i (mask_small g.0 (formed_of _ g.0 g.1) i h)).0 h).0);
          next = refl;
        })

  move_set : (r : Expr) (f : Named) (e : Expr) → StmtMoves (stmt.Set r f e)
  move_set r f e x y g =
      let c = then_came (typed b x r x.scope) _ y (asked _ x y _ ((forms_are.stmts b x).set r f e) g) in
      let w = wanted (is_class c.first.ty) _ _ y c.then in
      let u = found_was w.then.0 _ (set_with b x f e c.first) y w.then.2 in
      let d = then_came (typed b x e (path_of c.first.ty c.first).scope) _ y u.then in
      let k = wanted d.then.0 _ (dropped x f.name c.first.path) y d.then.2 in
      let m = drop_moves x y f.name c.first.path k.then in
      moved_level x y _ (record {
        vars = m.vars;
        apart = m.apart;
        next = m.next ∙ sym (after_is _ _ (stmt.rolls-Set r f e) x.next);
        grows = let i = m.next in omega (arith, i);
      })

  -- ---- `if` and `while`

  conditioned : (e : Expr) (x y : Before) (go : Plan Before) → Gives p (condition b x e go) (Ok y) → Gives p go (Ok y)
  conditioned e x y go g =
      let c = then_came (typed b x e x.scope) _ y g in
      let w = wanted (is_bool c.first.ty) _ go y c.then in
      w.then

  choice_moves : (one other : Told) (x y : Before) → Gives p
      (choice_typed (map (stmt_types b) (trees_of one)) (map (stmt_types b) (trees_of other)) x) (Ok y) → Level x y
      (path_behind (trees_of other) (path_behind (trees_of one) x.next))
  choice_moves one other x y g =
      let c = then_came (block_typed (map (stmt_types b) (trees_of one)) x) _ y g in
      let u : Before = record x { next = c.first.next } in
      let d = then_came (block_typed (map (stmt_types b) (trees_of other)) u) _ y c.then in
      let j = then_came (joined c.first.scope d.first.scope) _ y d.then in
      let a = block_moves one x c.first c.gave in
      let k = block_moves other u d.first d.gave in
      let s = joined_apart p x.scope c.first.scope d.first.scope j.first a.apart k.apart j.gave in
      subst (λ (z : Before). Level x z (path_behind (trees_of other) (path_behind (trees_of one) x.next)))
      (sym (same_before _ y j.then)) (record {
        vars = refl;
        apart = s;
        next = k.next ∙ ap (path_behind (trees_of other)) a.next;
        grows = let i = a.grows in let l = k.grows in omega (arith, i, l);
      })

  loop_moves : (body : Told) (x y : Before) → Gives p (loop_typed (map (stmt_types b) (trees_of body)) x) (Ok y) →
      Level x y (path_behind (trees_of body) x.next)
  loop_moves body x y g =
      let c = then_came (block_typed (map (stmt_types b) (trees_of body)) x) _ y g in
      let a = block_moves body x c.first c.gave in
      subst (λ (z : Before). Level x z (path_behind (trees_of body) x.next)) (sym (same_before _ y c.then)) (record {
        vars = refl;
        apart = apart_itself x.scope;
        next = a.next;
        grows = a.grows;
      })

  move_if : (e : Expr) (one other : Told) (at : Place) → StmtMoves (stmt.If e (trees_of one) (trees_of other) at)
  move_if e one other at x y g =
      subst (Moved x y) (sym (after_is _ _ (stmt.rolls-If e (trees_of one) (trees_of other) at) x.next))
      (moved_level x y _ (choice_moves one other x y (conditioned e x y _
      (asked _ x y _ ((forms_are.stmts b x).choice e (trees_of one) (trees_of other) at) g))))

  move_while : (e : Expr) (body : Told) (at : Place) → StmtMoves (stmt.While e (trees_of body) at)
  move_while e body at x y g =
      subst (Moved x y) (sym (after_is _ _ (stmt.rolls-While e (trees_of body) at) x.next))
      (moved_level x y _ (loop_moves body x y (conditioned e x y _
      (asked _ x y _ ((forms_are.stmts b x).loop e (trees_of body) at) g))))

  -- ---- by the tree

  abbrev layer : Stmt-F ((s : Stmt) × StmtMoves s) → Stmt-F Stmt
  layer = map-Stmt _ _ (λ s. s.0)

  stmt_told : (y : Stmt-F ((s : Stmt) × StmtMoves s)) → StmtMoves (roll-Stmt (layer y))
  stmt_told (Stmt-F.Block ss) = subst StmtMoves (sym (stmt.rolls-Block (trees_of ss))) (move_block ss)
  stmt_told (Stmt-F.Local fixed t n e) = subst StmtMoves (sym (stmt.rolls-Local fixed t n e)) (move_local fixed t n e)
  stmt_told (Stmt-F.Assign n e) = subst StmtMoves (sym (stmt.rolls-Assign n e)) (move_assign n e)
  stmt_told (Stmt-F.Set r f e) = subst StmtMoves (sym (stmt.rolls-Set r f e)) (move_set r f e)
  stmt_told (Stmt-F.Do e) = subst StmtMoves (sym (stmt.rolls-Do e)) (move_do e)
  stmt_told (Stmt-F.If e one other at) = subst StmtMoves (sym (stmt.rolls-If e (trees_of one) (trees_of other) at))
      (move_if e one other at)
  stmt_told (Stmt-F.While e body at) = subst StmtMoves (sym (stmt.rolls-While e (trees_of body) at))
      (move_while e body at)
  stmt_told (Stmt-F.Return e at) = subst StmtMoves (sym (stmt.rolls-Return e at)) (move_return e at)
  stmt_told (Stmt-F.Print e at) = subst StmtMoves (sym (stmt.rolls-Print e at)) (move_print e at)
  stmt_told (Stmt-F.PrintText t at) = subst StmtMoves (sym (stmt.rolls-PrintText t at)) (move_text t at)

  pub stmt_moves : (s : Stmt) → StmtMoves s
  stmt_moves = ind-Stmt StmtMoves (λ x y is. subst (λ z. StmtMoves (roll-Stmt z)) is (stmt_told y))

  told : List Stmt → Told
  told [] = []
  told (s ∷ ss) = (s, stmt_moves s) ∷ told ss

  told_are : (ss : List Stmt) → trees_of (told ss) ≡ ss
  unfolding told
  told_are [] = refl
  told_are (s ∷ ss) = ap (λ (us : List Stmt). s ∷ us) (told_are ss)

  pub all_move : (ss : List Stmt) (x y : Before) → Gives p (stmts_type b ss x) (Ok y) → Moved x y
      (path_behind ss x.next)
  all_move ss x y = subst (λ (us : List Stmt). Gives p (stmts_type b us x) (Ok y) → Moved x y (path_behind us x.next))
      (told_are ss) (stmts_move (told ss) x y)

  pub blocks_move : (ss : List Stmt) (x y : Before) → Gives p (block_typed (map (stmt_types b) ss) x) (Ok y) →
      Level x y (path_behind ss x.next)
  blocks_move ss x y = subst (λ (us : List Stmt). Gives p (block_typed (map (stmt_types b) us) x) (Ok y) → Level x y
      (path_behind us x.next)) (told_are ss) (block_moves (told ss) x y)

pub statements_move : StatementsMove
statements_move = all_move
