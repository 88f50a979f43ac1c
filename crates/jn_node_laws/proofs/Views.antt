-- A view change.
use Rattle.std.proofs.Common.{◌≡◌, ℕ, suc, ◌+◌, ◌<◌, ◌≤◌, List, [], ◌∷◌, ◌++◌, length, Some, Bool, refl, sym, ap, ◌∙◌, subst, arith}
use Rattle.std.specs.Prelude.{ℤ, pos, slice_get}
use Rattle.std.proofs.lemmas.List.{append-nil}
use Rattle.jn_steps.specs.Steps.{Goes, Faults, on_some}
use Rattle.jn_base.specs.declared.tree.Name.{Name}
use Rattle.jn_base.specs.declared.tree.ViewTerm.{ViewTerm}
use Rattle.jn_base.specs.declared.tree.Program.{Program}
use Rattle.jn_base.specs.declared.types.Anchor.{Anchor}
use Rattle.jn_base.specs.declared.types.Anchor.TheVariants.{Root}
use Rattle.jn_base.specs.declared.names.Var.{Var}
use Rattle.jn_base.specs.Paths.{Path}
use Rattle.jn_base.specs.Atoms.{Atom, anchor_at}
use Rattle.jn_code.specs.declared.instr.Instr.{Instr}
use Rattle.jn_code.specs.declared.instr.Instr.TheVariants as ins
use Rattle.jn_code.specs.declared.image.Image.{Image}
use Rattle.jn_code.specs.declared.image.Code.{Code}
use Rattle.jn_code.specs.declared.image.ClassRow.{ClassRow}
use Rattle.jn_code.specs.Machine.{move, obey, ref_word, viewed, next}
use Rattle.jn_code.specs.Machine as machine
use Rattle.jn_sem.specs.declared.outcome.Why.{Why}
use Rattle.jn_sem.specs.declared.outcome.Why.TheVariants as why
use Rattle.jn_sem.specs.Sets.{AnchorSeen, view_at}
use Rattle.jn_sem.specs.Values.{Value, Number, Truth, Null, Reference}
use Rattle.jn_sem.specs.Terms.{Site, ViewIs}
use Rattle.jn_sem.specs.Sharing.{Counterpart, family_of}
use Rattle.jn_sem.specs.Acts.{View, Todo, todo}
use Rattle.jn_sem.specs.Run.{acting}
use Rattle.jn_sem.specs.Asks.{Only}
use Rattle.jn_sem.specs.State.{Heap, Frame, frame_views, site_of}
use Rattle.jn_sem.specs.Does.{Stuck, Did, Way, IsTargetFamily, on_viewed, goes}
use Rattle.jn_sem.proofs.SharedLaws.{sharing_laws}
use Rattle.jn_agree.specs.Naming.{Naming, IsWord}
use Rattle.jn_agree.specs.Matches.{World, Matches}
use Rattle.jn_agree.specs.Rows.{RowsAre}
use Rattle.jn_agree.specs.Follows.{Knows, blank, quiet, Follows}
use Rattle.jn_node_laws.specs.Cont.{of_frame, Layout, Takes, trimmed, PlacedOn, active, ContOn, LeadsTo}
use Rattle.jn_node_laws.specs.Facts.{FewNumbers, TargetSeen}
use Rattle.jn_node_laws.proofs.Classes.{split, class_had, class_known}
use Rattle.jn_agree.specs.Places.{At, Run, ClassCode}
use Rattle.jn_match_laws.proofs.RowLaws.{row_at, viewed_found, block_low}
use Rattle.jn_node_laws.proofs.Gets.{some_goes}
use Rattle.jn_node_laws.proofs.Ways.{w_first, w_only, top_word}
use Rattle.jn_node_laws.proofs.Quiet.{comes_quiet}
use Rattle.jn_base.proofs.ResolveOnce.{view_once}
use Rattle.jn_base.specs.ResolveTypes.{mask_names}
use Rattle.jn_base.specs.Atoms.{atom_of, atom_at}
use Rattle.jn_base.specs.declared.types.Atom.{Atom as ShownAtom}
use Rattle.jn_base.specs.declared.types.Masks.{Masks}
use Rattle.jn_base.specs.declared.types.Ty.{Ty}
use Rattle.jn_base.specs.declared.types.Ty.TheVariants as ty
use Rattle.jn_base.specs.declared.refusal.Refusal.{Refusal}
use Rattle.std.specs.Prelude.{Result, Ok}
use Rattle.jn_node_laws.proofs.Nodes.{node_of, Next, moved, goes_on, goes_in, stuck, comes, with_operands}

module _ (p : Program) (i : Image) (n : Naming) (m : ℕ) (K : Knows) (T : Type 0) (Stands : T → Frame → Heap → Type 0)
    (code : ℕ) (it : Code) (there : slice_get i.codes code ≡ Some it) (r : Frame) (rows : RowsAre p i n) where
  -- what a value becomes, with its word
  pub record Turned (fam : ℕ) (x : World) (z : ℤ) (v : Value) : Type 0 where
    pub word : ℤ
    pub is : viewed i fam z ≡ Some word
    pub stands : IsWord p n x.firsts v word

  turn : (x : World) (a : List ℤ) (fam : ℕ) (Y : Name) (v : Value) (z : ℤ) (go : Value → Way) (Q : Did → Type 0)
      (d : Did) → slice_get n.classes fam ≡ Some (Y ∷ []) → Matches p i n x a → IsWord p n x.firsts v z
      → ((d : Did) (w : Why) → d ≡ Faults (Stuck w) → Q d) → ((v : Value) (d : Did) → Turned fam x z v → go v d → Q d)
      → on_viewed p Y v go d → Q d
  turn x a fam Y (Number k) z go Q d fy ma w no_way on h = no_way d why.Kind h
  turn x a fam Y (Truth b) z go Q d fy ma w no_way on h = no_way d why.Kind h
  turn x a fam Y Null z go Q d fy ma w no_way on h = on Null d
      (record { word = z; is = ap (viewed i fam) w.is ∙ ap (λ (z : ℤ). Some z) (sym w.is); stands = w }) h
  turn x a fam Y (Reference o V) z go Q d fy ma w no_way on h =
      let ws = w.is in
      let low = block_low i n x.heap.objects x.firsts 0 (length a) o ws.1 ma.blocks ws.3 in
      let small = ma.small in
      let cell : ws.1.cell < 4294967296 = omega (arith, low.3, small) in
      w_only Q no_way (Counterpart p Y V) (λ W. go (Reference o W)) d h (λ W only g.
      let got = viewed_found p i n rows V W ws.0 fam ws.1.cell Y cell ws.2 fy only.is in
      on (Reference o W) d (record {
        word = ref_word got.0 ws.1.cell;
        is = ap (viewed i fam) ws.5 ∙ got.1;
        stands = record {
          is = (
            got.0,
            ws.1,
            got.2,
            ws.3,
            (sharing_laws p).joined ws.1.made V W ws.4 only.is.related,
            refl,
          );
        };
      }) g)

  conv : (s kx : ℕ) (row : ClassRow) (lv zs a : List ℤ) (z word : ℤ) (keeps : Bool) → At it.instrs s ins.Conv →
      slice_get i.classes kx ≡ Some row → viewed i row.family z ≡ Some word → move i m
      (active code s lv (pos kx ∷ (z ∷ zs)) keeps) a ≡ Goes (active code (s + 1) lv (word ∷ zs) keeps) a []
  conv s kx row lv zs a z word keeps at rowed turned =
      let g = active code s lv (pos kx ∷ (z ∷ zs)) keeps in
      let of_word : ℤ → machine.Did = λ w. next g (w ∷ zs) a in
      moved p i n m K T Stands code it there r s ins.Conv lv (pos kx ∷ (z ∷ zs)) a keeps at
      ∙ some_goes machine.Stuck (slice_get i.classes kx) row
      (λ (row : ClassRow). on_some machine.Null (viewed i row.family z) of_word) rowed
      ∙ some_goes machine.Null (viewed i row.family z) word of_word turned

  pub site_is : (here : Site) (l : Layout) (f : Frame) (x : World) (lv zs : List ℤ) →
      PlacedOn p n it r here l f x lv zs →
      here ≡ site_of f
  site_is here l f x lv zs e =
      ap (λ (c : Path). let t : Site = record { class = c; method = here.method; vars = here.vars } in t) (sym e.class)
      ∙ ap (λ (k : Name). let t : Site = record { class = f.class; method = k; vars = here.vars } in t) (sym e.method)
      ∙ ap (λ (vs : List Var). let t : Site = record { class = f.class; method = f.method.name.name; vars = vs } in t)
      (sym e.scope)

  -- a class of the family is had
  record HadFamily (s o : ℕ) (lv zs a : List ℤ) (kp : Bool) (Y : Name) : Type 0 where
    pub steps : ℕ
    pub few : steps ≤ 10
    pub to : ℕ
    pub path : Path
    pub class : slice_get n.classes to ≡ Some path
    pub family : family_of path ≡ Some Y
    pub on : quiet i m steps (active code s lv zs kp) a ≡ Some (active code o lv (pos to ∷ zs) kp, a)

  abbrev HasFamily : Layout → Site → ViewTerm → (Frame → Heap → Type 0) → (s o : ℕ) → Type 0
  HasFamily q here v Fact s o =
      (f : Frame) (x : World) (a lv zs : List ℤ) (kp : Bool) → PlacedOn p n it r here q f x lv zs → Matches p i n x a
      → Fact f x.heap → (Y : Name) → Only (IsTargetFamily p f v) Y → HadFamily s o lv zs a kp Y

  -- whatever the code of the class is
  view_by : (q l : Layout) → Takes q l → (b : ℕ) (here : Site) (u t : T) (v : ViewTerm) (k : List Todo) (s o w : ℕ)
      → At it.instrs o ins.Conv → (Fact : Frame → Heap → Type 0)
      → ((f : Frame) (h : Heap) → Stands u f h → Fact (acting (todo (length here.vars) (View v)) k f) h)
      → HasFamily q here v Fact s o → LeadsTo p i n m K T Stands code it r here (View v) k u t
      → ContOn p i n m K T Stands code it r (of_frame ∷ l) b here t k (o + 1) (20 + w)
      → ContOn p i n m K T Stands code it r q (suc b) here u (todo (length here.vars) (View v) ∷ k) s w
  view_by q l tk b here u t v k s o w at_conv Fact facts has leads h =
      node_of p i n m K T Stands code it there r q b here u t (View v) k s w leads Fact facts
      (λ f x a lv zs kp ft placed ma fact d step.
      let g = active code s lv zs kp in
      let Q : Did → Type 0 = λ d. Follows p i n m blank
      (Next p i n m K T Stands code it there r here t b) r d x g a w in
      let no_way : (d : Did) (w : Why) → d ≡ Faults (Stuck w) → Q d = λ d2 why e.
      stuck p i n m K T Stands code it there r b here t why x g a w d2 e in
      w_first Q no_way f.vals _ d step (λ u us vus step.
      let rw = top_word p n x.firsts f.this q l tk u us f.vals zs vus placed.operands.are in
      w_only Q no_way (IsTargetFamily p f v) _ d step (λ Z only step.
      let had = has f x a lv zs kp placed ma fact Z only in
      let row = row_at p i n rows had.path had.to had.class in
      turn x a row.0.family Z u rw.word (λ w. goes f (w ∷ us) x.heap) Q d
      (row.2.family Z had.family) ma rw.first no_way (λ v2 d2 turned e.
      let f2 : Frame = record f { vals = v2 ∷ us } in
      let few = had.few in
      goes_in p i n m K T Stands code it there r b here t x f2 [] g
      (active code (o + 1) lv (turned.word ∷ rw.rest) kp) a 11 (20 + w) w d2 e
      (comes_quiet p i n m K had.steps g (active code o lv (pos had.to ∷ zs) kp) a a _ 1 11 had.on (omega (arith, few))
      (comes p i n m K T Stands code it there r _ a _ 1
      (ap (λ (zs : List ℤ). move i m (active code o lv (pos had.to ∷ zs) kp) a) rw.is
      ∙ conv o had.to row.0 lv rw.rest a rw.word turned.word kp at_conv row.1 turned.is) (omega arith)))
      (omega arith) placed.result ma
      (goes_on p i n m K T Stands code it there r (of_frame ∷ l) b here t k (o + 1) (20 + w) h f2 x a lv
      (turned.word ∷ rw.rest) kp ft
      (with_operands p n it r here q (of_frame ∷ l) f (v2 ∷ us) f.todo x lv zs (turned.word ∷ rw.rest) placed
      (record { are = (turned.stands, rw.others) })) ma)) step)))

  -- to a class of the program's own
  pub view : (q l : Layout) → Takes q l → (b : ℕ) (here : Site) (u t : T) (v : ViewTerm) (atom : Atom) (Y : Name)
      (kx : ℕ) (k : List Todo)
      (s w : ℕ) → ViewIs p here v atom → atom.anchor ≡ Root
      → slice_get n.classes kx ≡ Some (atom.names ++ atom.exact) → family_of (atom.names ++ atom.exact) ≡ Some Y
      → At it.instrs s (ins.Cls kx) → At it.instrs (s + 1) ins.Conv → LeadsTo p i n m K T Stands code it r here
      (View v) k u t
      → ContOn p i n m K T Stands code it r (of_frame ∷ l) b here t k (s + 1 + 1) (20 + w)
      → ContOn p i n m K T Stands code it r q (suc b) here u (todo (length here.vars) (View v) ∷ k) s w
  view q l tk b here u t v atom Y kx k s w is root cls fam at_cls at_conv leads h =
      view_by q l tk b here u t v k s (s + 1) w at_conv (λ f h. Unit {0}) (λ f h st. tt)
      (λ f x a lv zs kp placed ma fact Z only.
      let mine : IsTargetFamily p f v Y = record {
        atom = atom;
        resolved = subst (λ (t : Site). ViewIs p t v atom) (site_is here q f x lv zs placed) is;
        seen = subst (λ (c : Anchor). AnchorSeen (frame_views f) c) (sym root) tt;
        is = ap (λ (c : Anchor). family_of (atom.names ++ (atom.exact ++ anchor_at (view_at (frame_views f)) c))) root
            ∙ ap (λ (es : List Name). family_of (atom.names ++ es)) (append-nil atom.exact) ∙ fam;
      } in
      let had = class_known p i n m K T Stands code it there r s kx (atom.names ++ atom.exact) lv zs a kp cls
      at_cls in
      record {
        steps = 1;
        few = omega arith;
        to = had.to;
        path = atom.names ++ atom.exact;
        class = had.class;
        family = fam ∙ ap (λ (Z : Name). Some Z) (only.one Y mine);
        on = had.on;
      }) leads h

  -- to the class of whatever atom
  pub view_on : FewNumbers n → (q l : Layout) → Takes q l → (b : ℕ) (here : Site) (u t : T) (v : ViewTerm) (atom : Atom)
      (xs : List Instr) (k : List Todo) (s e w : ℕ) → ViewIs p here v atom → ClassCode n atom xs → length xs ≤ 10
      → Run it.instrs (xs ++ ins.Conv ∷ []) s e
      → ((f : Frame) (h : Heap) → Stands u f h → TargetSeen p atom (trimmed here f))
      → LeadsTo p i n m K T Stands code it r here (View v) k u t
      → ContOn p i n m K T Stands code it r (of_frame ∷ l) b here t k e (20 + w)
      → ContOn p i n m K T Stands code it r q (suc b) here u (todo (length here.vars) (View v) ∷ k) s w
  view_on few q l tk b here u t v atom xs k s e w is coded short runs sees leads h =
      let two = split it.instrs xs (ins.Conv ∷ []) s e runs in
      view_by q l tk b here u t v k s two.mid w two.back.0 (λ f h. TargetSeen p atom f)
      (λ f h st. let t = sees f h st in record { keeps = t.keeps; universe = t.universe })
      (λ f x a lv zs kp placed ma fact Z only.
      let one : atom ≡ only.is.atom = view_atom_once (site_of f) v atom only.is.atom
      (subst (λ (t : Site). ViewIs p t v atom) (site_is here q f x lv zs placed) is) only.is.resolved in
      let had = class_had p i n m K T Stands code it there r rows few here q f x lv zs a kp atom xs s two.mid placed ma
      coded two.front
      (subst (λ (y : Atom). AnchorSeen (frame_views f) y.anchor) (sym one) only.is.seen) fact.keeps fact.universe in
      record {
        steps = length xs;
        few = short;
        to = had.to;
        path = atom_at (view_at (frame_views f)) atom;
        class = had.class;
        family = ap (λ (y : Atom). family_of (atom_at (view_at (frame_views f)) y)) one ∙ only.is.is;
        on = had.on;
      }) leads
      (subst (λ (e : ℕ). ContOn p i n m K T Stands code it r (of_frame ∷ l) b here t k e (20 + w)) two.back.1 h)
    where
      same_type : (a b : Ty) → ◌≡◌ {A = Result Ty Refusal} (Ok a) (Ok b) → a ≡ b
      same_type a b e = cc

      same_given : (x y : ShownAtom) (m n : Masks) → ty.Class (x ∷ []) m ≡ ty.Class (y ∷ []) n → x ≡ y
      same_given x y m n e = cc

      view_atom_once : (at : Site) (t : ViewTerm) (a b : Atom) → ViewIs p at t a → ViewIs p at t b → a ≡ b
      view_atom_once at t a b h k =
          let e = same_type (ty.Class (h.given ∷ []) h.masks) (ty.Class (k.given ∷ []) k.masks)
          (view_once p (mask_names p) _ _ t _ _ h.resolved k.resolved) in
          h.is ∙ ap atom_of (same_given h.given k.given h.masks k.masks e) ∙ sym k.is
