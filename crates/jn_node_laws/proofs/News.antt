-- `new`: of a class of the program's own and of one that hangs on a path, with a constructor and without one.
use Rattle.std.proofs.Common.{◌≡◌, ℕ, zero, suc, ◌+◌, ◌*◌, ◌<◌, ◌≤◌, List, [], ◌∷◌, ◌++◌, length, Option, Some, None, Bool, true, false, refl, sym, ap, ◌∙◌, subst, arith, append_assoc}
use Rattle.std.specs.Prelude.{ℤ, pos, slice_get, Result, Ok, if◌then◌else◌}
use Rattle.std.proofs.lemmas.Bool.{ne_eqb}
use Rattle.std.proofs.lemmas.Option.{slice_get_within}
use Rattle.jn_steps.specs.Steps.{Faults}
use Rattle.jn_base.specs.declared.tree.Name.{Name}
use Rattle.jn_base.specs.declared.tree.Term.{Term}
use Rattle.jn_base.specs.declared.tree.Program.{Program}
use Rattle.jn_base.specs.declared.types.Atom.{Atom as ShownAtom}
use Rattle.jn_base.specs.declared.names.Role.TheVariants as role
use Rattle.jn_base.specs.declared.refusal.Refusal.{Refusal}
use Rattle.jn_base.specs.Paths.{Path}
use Rattle.jn_base.specs.Universe.{InUniverse}
use Rattle.jn_base.specs.Atoms.{Atom, atom_of, anchor_at, atom_at}
use Rattle.jn_base.proofs.ResolveOnce.{term_once}
use Rattle.jn_code.specs.declared.instr.Instr.{Instr}
use Rattle.jn_code.specs.declared.instr.Instr.TheVariants as ins
use Rattle.jn_code.specs.declared.image.Image.{Image}
use Rattle.jn_code.specs.declared.image.Code.{Code}
use Rattle.jn_code.specs.declared.image.Group.{Group}
use Rattle.jn_code.specs.declared.image.Shape.{Shape}
use Rattle.jn_code.specs.declared.image.ClassRow.{ClassRow}
use Rattle.jn_code.specs.Rows.{numbered}
use Rattle.jn_code.specs.Machine.{code_in}
use Rattle.jn_sem.specs.declared.outcome.Why.{Why}
use Rattle.jn_sem.specs.declared.outcome.Why.TheVariants as why
use Rattle.jn_sem.specs.Sets.{AnchorSeen, view_at}
use Rattle.jn_sem.specs.Terms.{Site, TermIs}
use Rattle.jn_sem.specs.Sharing.{IsClass}
use Rattle.jn_sem.specs.Slots.{IsSize}
use Rattle.jn_sem.specs.Acts.{Make, Todo, todo}
use Rattle.jn_sem.specs.State.{Frame, Heap, frame_views, site_of}
use Rattle.jn_sem.specs.Asks.{Only, holds, fails}
use Rattle.jn_sem.specs.Does.{Stuck, Body, IsBody, IsConstructorBody, IsNewClass, AreFresh, Did, args_of, makes, constructs}
use Rattle.jn_agree.specs.declared.selectors.MethodSel.{MethodSel}
use Rattle.jn_agree.specs.Naming.{Naming}
use Rattle.jn_agree.specs.Matches.{World, Matches, RowOf}
use Rattle.jn_agree.specs.Rows.{RowIs, RowsAre, HasShape}
use Rattle.jn_agree.specs.Follows.{Knows, blank, Follows}
use Rattle.jn_agree.specs.Places.{At, Run, MethodOf, ClassCode, dropping}
use Rattle.jn_match_laws.proofs.RowLaws.{row_at, got_same}
use Rattle.jn_node_laws.specs.Cont.{Layout, TakesAll, with_value, trimmed, PlacedOn, Placed, active, ContOn, Cont, LeadsTo}
use Rattle.jn_node_laws.specs.Facts.{FewNumbers, MakesWell, MakesBare, BodiesOnce}
use Rattle.jn_node_laws.proofs.Classes.{Split, split, class_had}
use Rattle.jn_node_laws.proofs.Objects.{with_ctor, without_ctor}
use Rattle.jn_node_laws.proofs.Views.{site_is}
use Rattle.jn_node_laws.proofs.Ways.{w_some, w_only, w_test, arg_words, args_long}
use Rattle.jn_node_laws.proofs.Nodes.{node_of, Next, moved, stuck, narrow}
use Rattle.jn_node_laws.proofs.Quiet.{quiet_one}

pub takes_flat : (c : ℕ) → TakesAll c [] []
takes_flat zero = refl
takes_flat (suc c) = ([], refl, takes_flat c)

same_atom : (a b : ShownAtom) → ◌≡◌ {A = Result ShownAtom Refusal} (Ok a) (Ok b) → a ≡ b
same_atom a b e = cc

atom_once : (p : Program) (at : Site) (t : Term) (a b : Atom) → TermIs p role.New at t a → TermIs p role.New at t b →
    a ≡ b
atom_once p at t a b h k =
    h.2 ∙ ap atom_of (same_atom h.0 k.0 (term_once p _ _ t (Ok h.0) (Ok k.0) h.1 k.1)) ∙ sym k.2

-- the same views, so the same class
class_again : (p : Program) (f : Frame) (todo : List Todo) (t : Term) (V : Path) → IsNewClass p f t V →
    IsNewClass p (record f { todo = todo }) t V
class_again p f todo t V e = record { atom = e.atom; resolved = e.resolved; seen = e.seen; is = e.is }

module _ (p : Program) (i : Image) (n : Naming) (m : ℕ) (K : Knows) (T : Type 0) (Stands : T → Frame → Heap → Type 0)
    (code : ℕ) (it : Code) (there : slice_get i.codes code ≡ Some it) (r : Frame) where
  -- what is left of a value, where all operands are the frame's
  pub narrowed : (keeps : Bool) (b : ℕ) (here : Site) (t : T) (k : List Todo) (s w : ℕ) →
      Cont p i n m K T Stands code it r b here t k s w →
      ContOn p i n m K T Stands code it r (with_value keeps []) b here t k s w
  narrowed true b here t k s w h = narrow p i n m K T Stands code it there r b here t k s w h
  narrowed false b here t k s w h = h

  module _ (rows : RowsAre p i n) where
    -- (which class the term makes is what a view's target is; here it has a constructor)
    pub make : (b : ℕ) (here : Site) (u0 t0 : T) (t : Term) (C : Name) (P : Path) (kx j num : ℕ) (group : Group)
        (shape : Shape) (keeps : Bool) (k : List Todo) (s e w : ℕ) → m < 4294967296
        → ((f : Frame) (x : World) (lv zs : List ℤ) → Placed p n it r here f x lv zs → (V : Path) → Only
        (IsNewClass p f t) V → V ≡ C ∷ P) → slice_get n.classes kx ≡ Some (C ∷ P)
        → ((row : ClassRow) → RowOf i n (C ∷ P) kx row → (numbered row.group ≡ Some row.group) ×
        (slice_get i.groups row.group ≡ Some group)) →
        ((size : ℕ) → IsSize p (C ∷ P) size → size ≡ suc (length group.slots))
        → At it.instrs s (ins.Cls kx) → At it.instrs (s + 1) ins.New → At it.instrs (s + 1 + 1) (ins.Ctor j) →
        Run it.instrs (dropping keeps 3) (s + 1 + 1 + 1) e → MethodOf n C j shape → length shape.params ≡ num
        → ((b : Body) → IsBody p (C ∷ P) C b → HasShape p b shape) →
        (((b : Body) → Only (IsConstructorBody p (C ∷ P)) b → ⊥) → ⊥) → LeadsTo p i n m K T Stands code it r here
        (Make t num keeps) k u0 t0 → Cont p i n m K T Stands code it r b here t0 k e (15 + w)
        → Cont p i n m K T Stands code it r (suc b) here u0 (todo (length here.vars) (Make t num keeps) ∷ k) s
        (3 * num + w)
    make b here u0 t0 t C P kx j num group shape keeps k s e w mm is_new cls grp sized at_cls at_new at_ctor runs sel
        many typed has_ctor leads h =
        node_of p i n m K T Stands code it there r [] b here u0 t0 (Make t num keeps) k s (3 * num + w) leads
        (λ f h. Unit {0}) (λ f h st. tt) (λ f x a lv zs kp ft placed ma fact d step.
        let g = active code s lv zs kp in
        let Q : Did → Type 0 = λ d. Follows p i n m blank
        (Next p i n m K T Stands code it there r here t0 b) r d x g a (3 * num + w) in
        let no_way : (d : Did) (w : Why) → d ≡ Faults (Stuck w) → Q d = λ d2 why e.
        stuck p i n m K T Stands code it there r b here t0 why x g a (3 * num + w) d2 e in
        w_some Q no_way (args_of num [] f.vals) _ _ d step (λ y is step.
        let aw = arg_words p n x.firsts f.this num [] [] (takes_flat num) [] f.vals [] zs y is tt
        placed.operands.are in
        w_only Q no_way (IsNewClass p f t) _ d step (λ V only step.
        let step2 : makes p m (C ∷ P) y.0 keeps f y.1 x.heap d = subst
        (λ (V : Path). makes p m V y.0 keeps f y.1 x.heap d) (is_new f x lv zs placed V only) step in
        w_test Q no_way (IsClass p (C ∷ P)) _ d step2 (λ class step.
        w_only Q no_way (IsSize p (C ∷ P)) _ d step (λ size sz step.
        w_only Q no_way (AreFresh p (C ∷ P)) _ d step (λ fresh fr step.
        let rw = row_at p i n rows (C ∷ P) kx cls in
        let group_is = grp rw.0 (record { class = cls; there = rw.1 }) in
        let had = quiet_one p i n m K g (active code (s + 1) lv (pos kx ∷ zs) kp) a a
        (moved p i n m K T Stands code it there r s (ins.Cls kx) lv zs a kp at_cls) in
        with_ctor p i n m K T Stands code it there r rows mm [] [] b here t0 keeps k 1 num s (s + 1) w at_new C P kx cls
        rw.0 rw.1 rw.2 group group_is.0 group_is.1 f x a lv zs kp ft placed ma y.0 y.1 aw.words aw.below aw.takes
        aw.first aw.others (args_long num [] f.vals y is) class fresh fr.is 1 (omega arith) had j 15 e shape
        (omega arith) at_ctor runs sel many typed (λ none. absurd (has_ctor none))
        (narrowed keeps b here t0 k e (15 + w) h) d
        (subst (λ (size : ℕ). constructs p m (C ∷ P) y.0 keeps f y.1 x.heap size fresh d) (sized size sz.is) step)))))))

    -- ---- whatever the code of the class is

    -- the row and the group of a class
    pub record HasGroup (C : Name) (P : Path) (kx : ℕ) : Type 0 where
      pub row : ClassRow
      pub rowed : slice_get i.classes kx ≡ Some row
      pub is_row : RowIs p n (C ∷ P) row
      pub group : Group
      pub numb : numbered row.group ≡ Some row.group
      pub grouped : slice_get i.groups row.group ≡ Some group
      pub sized : (size : ℕ) → IsSize p (C ∷ P) size → size ≡ suc (length group.slots)

    pub has_group : FewNumbers n → (C : Name) (P : Path) (kx : ℕ) → slice_get n.classes kx ≡ Some (C ∷ P) →
        IsClass p (C ∷ P) → HasGroup C P kx
    has_group few C P kx cls class =
        let rw = row_at p i n rows (C ∷ P) kx cls in
        let row_of : RowOf i n (C ∷ P) kx rw.0 = record { class = cls; there = rw.1 } in
        let g = rows.groups.there (C ∷ P) kx rw.0 class row_of in
        let first = rw.2.group.of_class class in
        let low = slice_get_within n.groups rw.0.group first.0 first.2 in
        let most = few.groups in
        record {
          row = rw.0;
          rowed = rw.1;
          is_row = rw.2;
          group = g.0;
          numb = ap (λ (t : Bool). let o : Option ℕ = if t then None else Some rw.0.group in o)
              (ne_eqb rw.0.group 65535 (λ same. omega (arith, low, most, same)));
          grouped = g.1;
          sized = λ size is. rows.groups.size (C ∷ P) kx size rw.0 g.0 row_of g.1 is;
        }

    -- where the class has no constructor, its row has none of that name
    pub no_code : BodiesOnce p → (C : Name) (P : Path) (j : ℕ) (shape : Shape) (row : ClassRow) → IsClass p (C ∷ P) →
        RowIs p n (C ∷ P) row → MethodOf n C j shape → ((a : Body) → Only (IsConstructorBody p (C ∷ P)) a → ⊥) →
        code_in row j ≡ None
    no_code once C P j shape row class is_row sel none = at (code_in row j) refl
      where
        at : (o : Option ℕ) → code_in row j ≡ o → code_in row j ≡ None
        at None e = e
        at (Some k) e =
            let entry = is_row.methods j k e in
            let same : entry.sel ≡ record { name = C; shape = shape } = got_same entry.sel _
            (sym entry.selector ∙ sel.at) in
            let is : IsBody p (C ∷ P) C entry.body = subst (λ (x : MethodSel). IsBody p (C ∷ P) x.name entry.body) same
            entry.least in
            absurd (none entry.body
            (record { is = is; one = λ b k. once (C ∷ P) C class.universe b entry.body k is }))

    module _ (few : FewNumbers n) where
      pub make_on : BodiesOnce p → (q l : Layout) (b : ℕ) (here : Site) (u0 t0 : T) (term : Term) (y : Atom)
          (xs : List Instr) (C : Name) (P0 : Path) (j num : ℕ) (shape : Shape) (keeps : Bool) (k : List Todo)
          (s e w : ℕ)
          → m < 4294967296 → TakesAll num q l → TermIs p role.New here term y → ClassCode n y xs → length xs ≤ 10
          → y.names ++ y.exact ≡ C ∷ P0
          → Run it.instrs (xs ++ ins.New ∷ (ins.Ctor j ∷ dropping keeps 3)) s e
          → MethodOf n C j shape → length shape.params ≡ num
          → ((f : Frame) (h : Heap) → Stands u0 f h → MakesWell p term C shape y (trimmed here f))
          → LeadsTo p i n m K T Stands code it r here (Make term num keeps) k u0 t0
          → ContOn p i n m K T Stands code it r (with_value keeps l) b here t0 k e (11 + w)
          → ContOn p i n m K T Stands code it r q (suc b) here u0 (todo (length here.vars) (Make term num keeps) ∷ k) s
          (3 * num + w)
      make_on once q l b here u0 t0 term y xs C P0 j num shape keeps k s e w mm tks is coded short named runs sel many
          well leads h =
          let two = split it.instrs xs (ins.New ∷ (ins.Ctor j ∷ dropping keeps 3)) s e runs in
          node_of p i n m K T Stands code it there r q b here u0 t0 (Make term num keeps) k s (3 * num + w) leads
          (λ f h. MakesWell p term C shape y f)
          (λ f h st. let t = well f h st in record {
            keeps = t.keeps;
            shapes = λ P b made is. t.shapes P b (class_again p _ f.todo term (C ∷ P) made) is;
          })
          (λ f x a lv zs kp ft placed ma fact d step.
          let g = active code s lv zs kp in
          let Q : Did → Type 0 = λ d. Follows p i n m blank
          (Next p i n m K T Stands code it there r here t0 b) r d x g a (3 * num + w) in
          let no_way : (d : Did) (w : Why) → d ≡ Faults (Stuck w) → Q d = λ d2 why e.
          stuck p i n m K T Stands code it there r b here t0 why x g a (3 * num + w) d2 e in
          w_some Q no_way (args_of num [] f.vals) _ _ d step (λ z zis step.
          let aw = arg_words p n x.firsts f.this num q l tks [] f.vals [] zs z zis tt placed.operands.are in
          w_only Q no_way (IsNewClass p f term) _ d step (λ V only step.
          let one : y ≡ only.is.atom = atom_once p (site_of f) term y only.is.atom
          (subst (λ (t : Site). TermIs p role.New t term y)
          (site_is p i n m K T Stands code it there r rows here q f x lv zs placed) is) only.is.resolved in
          let at_y : V ≡ atom_at (view_at (frame_views f)) y = only.is.is ∙ ap
          (λ (y : Atom). atom_at (view_at (frame_views f)) y) (sym one) in
          let P : Path = P0 ++ anchor_at (view_at (frame_views f)) y.anchor in
          let v_is : V ≡ C ∷ P = at_y
          ∙ sym (append_assoc y.names y.exact (anchor_at (view_at (frame_views f)) y.anchor))
          ∙ ap (λ (es : Path). es ++ anchor_at (view_at (frame_views f)) y.anchor) named in
          let made : IsNewClass p f term (C ∷ P) = subst (λ (V : Path). IsNewClass p f term V) v_is only.is in
          w_test Q no_way (IsClass p (C ∷ P)) _ d
          (subst (λ (V : Path). makes p m V z.0 keeps f z.1 x.heap d) v_is step) (λ class step.
          w_only Q no_way (IsSize p (C ∷ P)) _ d step (λ size sz step.
          w_only Q no_way (AreFresh p (C ∷ P)) _ d step (λ fresh fr step.
          let had = class_had p i n m K T Stands code it there r rows few here q f x lv zs a kp y xs s two.mid placed ma
          coded two.front (subst (λ (y : Atom). AnchorSeen (frame_views f) y.anchor) (sym one) only.is.seen) fact.keeps
          (subst (λ (V : Path). InUniverse p V) (sym v_is ∙ at_y) class.universe) in
          let cls : slice_get n.classes had.to ≡ Some (C ∷ P) = had.class ∙ ap (λ (V : Path). Some V)
          (sym at_y ∙ v_is) in
          let gr = has_group few C P had.to cls class in
          with_ctor p i n m K T Stands code it there r rows mm q l b here t0 keeps k 10 num s two.mid w two.back.0 C P
          had.to cls gr.row gr.rowed gr.is_row gr.group gr.numb gr.grouped f x a lv zs kp ft placed ma z.0 z.1
          aw.words aw.below aw.takes aw.first aw.others (args_long num [] f.vals z zis) class fresh fr.is
          (length xs) short had.on j 11 e shape
          (omega arith) two.back.1.0 two.back.1.1 sel many (λ b is. fact.shapes P b made is)
          (no_code once C P j shape gr.row class gr.is_row sel) h d
          (subst (λ (size : ℕ). constructs p m (C ∷ P) z.0 keeps f z.1 x.heap size fresh d)
          (gr.sized size sz.is) step)))))))

      pub make_bare : (q : Layout) (b : ℕ) (here : Site) (u0 t0 : T) (term : Term) (y : Atom) (xs : List Instr)
          (keeps : Bool) (k : List Todo) (s e w : ℕ)
          → m < 4294967296 → TermIs p role.New here term y → ClassCode n y xs → length xs ≤ 10
          → Run it.instrs (xs ++ ins.New ∷ dropping keeps 3) s e
          → ((f : Frame) (h : Heap) → Stands u0 f h → MakesBare p term y (trimmed here f))
          → LeadsTo p i n m K T Stands code it r here (Make term 0 keeps) k u0 t0
          → ContOn p i n m K T Stands code it r (with_value keeps q) b here t0 k e (20 + w)
          → ContOn p i n m K T Stands code it r q (suc b) here u0 (todo (length here.vars) (Make term 0 keeps) ∷ k) s w
      make_bare q b here u0 t0 term y xs keeps k s e w mm is coded short runs well leads h =
          node_of p i n m K T Stands code it there r q b here u0 t0 (Make term 0 keeps) k s w leads
          (λ f h. MakesBare p term y f)
          (λ f h st. let t = well f h st in record {
            keeps = t.keeps;
            none = λ V b made is no. t.none V b (class_again p _ f.todo term V made) is no;
          })
          (λ f x a lv zs kp ft placed ma fact d step.
          let Q : Did → Type 0 = λ d. Shows f x a lv zs kp d in
          w_only Q (no_way f x a lv zs kp) (IsNewClass p f term) _ d step (λ V only step.
          of_class f x a lv zs kp ft placed ma fact d V only.is step))
        where
          two : Split it.instrs xs (ins.New ∷ dropping keeps 3) s e
          two = split it.instrs xs (ins.New ∷ dropping keeps 3) s e runs

          Shows : (f : Frame) (x : World) (a lv zs : List ℤ) (kp : Bool) → Did → Type 0
          Shows f x a lv zs kp d = Follows p i n m blank (Next p i n m K T Stands code it there r here t0 b) r d x
              (active code s lv zs kp) a w

          no_way : (f : Frame) (x : World) (a lv zs : List ℤ) (kp : Bool) (d : Did) (why : Why) →
              d ≡ Faults (Stuck why) → Shows f x a lv zs kp d
          no_way f x a lv zs kp d why e =
              stuck p i n m K T Stands code it there r b here t0 why x (active code s lv zs kp) a w d e

          of_class : (f : Frame) (x : World) (a lv zs : List ℤ) (kp : Bool) → f.todo ≡ k →
              PlacedOn p n it r here q f x lv zs → Matches p i n x a → MakesBare p term y f → (d : Did) (V : Path) →
              IsNewClass p f term V → makes p m V [] keeps f f.vals x.heap d → Shows f x a lv zs kp d
          of_class f x a lv zs kp ft placed ma fact d V made (fails not_so step) =
              no_way f x a lv zs kp d why.Missing step
          of_class f x a lv zs kp ft placed ma fact d [] made (holds class step) = absurd class.universe
          of_class f x a lv zs kp ft placed ma fact d (C ∷ P) made (holds class step) =
              let Q : Did → Type 0 = λ d. Shows f x a lv zs kp d in
              w_only Q (no_way f x a lv zs kp) (IsSize p (C ∷ P)) _ d step (λ size sz step.
              w_only Q (no_way f x a lv zs kp) (AreFresh p (C ∷ P)) _ d step (λ fresh fr step.
              let one : y ≡ made.atom = atom_once p (site_of f) term y made.atom
              (subst (λ (t : Site). TermIs p role.New t term y)
              (site_is p i n m K T Stands code it there r rows here q f x lv zs placed) is) made.resolved in
              let at_y : C ∷ P ≡ atom_at (view_at (frame_views f)) y = made.is ∙ ap
              (λ (y : Atom). atom_at (view_at (frame_views f)) y) (sym one) in
              let had = class_had p i n m K T Stands code it there r rows few here q f x lv zs a kp y xs s two.mid
              placed ma coded two.front (subst (λ (y : Atom). AnchorSeen (frame_views f) y.anchor) (sym one) made.seen)
              fact.keeps (subst (λ (V : Path). InUniverse p V) at_y class.universe) in
              let cls : slice_get n.classes had.to ≡ Some (C ∷ P) = had.class ∙ ap (λ (V : Path). Some V) (sym at_y) in
              let gr = has_group few C P had.to cls class in
              without_ctor p i n m K T Stands code it there r rows mm q q b here t0 keeps k 10 0 s two.mid w two.back.0
              C P had.to cls gr.row gr.rowed gr.is_row gr.group gr.numb gr.grouped f x a lv zs kp ft placed ma
              [] f.vals [] zs (λ go. refl) tt placed.operands.are refl class fresh fr.is
              (length xs) short had.on 20 e (omega arith) refl refl two.back.1
              (λ body ctor none. fact.none (C ∷ P) body made ctor none) h d
              (subst (λ (size : ℕ). constructs p m (C ∷ P) [] keeps f f.vals x.heap size fresh d)
              (gr.sized size sz.is) step)))
