-- The class of an atom: one of the program's own, or found from the view of a path.
use Rattle.std.proofs.Common.{◌≡◌, ℕ, zero, suc, ◌+◌, ◌<◌, List, [], ◌∷◌, ◌++◌, length, drop, Option, Some, None, Bool, true, false, refl, sym, ap, ◌∙◌, subst, arith, nat_eq, append_assoc}
use Rattle.std.specs.Prelude.{ℤ, pos, slice_get, cond, if◌then◌else◌, unwrap_or}
use Rattle.std.specs.Option.{option_and_then}
use Rattle.std.proofs.lemmas.Bool.{eqb-true, ne_eqb}
use Rattle.std.proofs.lemmas.List.{append-nil, length-append}
use Rattle.std.proofs.lemmas.Option.{slice_get_within}
use Rattle.jn_steps.specs.Steps.{Goes, on_some}
use Rattle.jn_base.specs.declared.tree.Name.{Name}
use Rattle.jn_base.specs.declared.tree.Program.{Program}
use Rattle.jn_base.specs.declared.types.Anchor.{Anchor}
use Rattle.jn_base.specs.declared.types.Anchor.TheVariants.{Up}
use Rattle.jn_base.specs.Paths.{Path}
use Rattle.jn_base.specs.Universe.{IsNamespace, InUniverse}
use Rattle.jn_base.specs.Atoms.{Atom, Among, first, later, anchor_at, atom_at}
use Rattle.jn_code.specs.declared.instr.Instr.{Instr}
use Rattle.jn_code.specs.declared.instr.Instr.TheVariants as ins
use Rattle.jn_code.specs.declared.image.Image.{Image}
use Rattle.jn_code.specs.declared.image.Code.{Code}
use Rattle.jn_code.specs.declared.image.ClassRow.{ClassRow}
use Rattle.jn_code.specs.Rows.{numbered}
use Rattle.jn_code.specs.Machine.{Ref, move, ref_in, ups_of, up_of, member_in}
use Rattle.jn_code.specs.Machine as machine
use Rattle.jn_code.proofs.Words.{ref_in_word}
use Rattle.jn_sem.specs.Sets.{AnchorSeen, view_at}
use Rattle.jn_sem.specs.Values.{Value, Number, Truth, Null, Reference}
use Rattle.jn_sem.specs.Terms.{Site}
use Rattle.jn_sem.specs.State.{Heap, Frame, Variable, frame_views, view_in, view_of_var}
use Rattle.jn_agree.specs.Naming.{Naming, IsWord}
use Rattle.jn_agree.specs.Matches.{World, Matches}
use Rattle.jn_agree.specs.Rows.{RowsAre}
use Rattle.jn_agree.specs.Follows.{Knows, quiet}
use Rattle.jn_agree.specs.Places.{At, Run, ClassCode, fixed, seen, up_by, downs}
use Rattle.jn_match_laws.proofs.RowLaws.{row_at, place_of, block_low}
use Rattle.jn_node_laws.specs.Cont.{Layout, PlacedOn, active}
use Rattle.jn_node_laws.specs.Facts.{FewNumbers, AnchorKeeps}
use Rattle.jn_node_laws.proofs.Gets.{some_goes}
use Rattle.jn_node_laws.proofs.Quiet.{quiet_one, quiet_then}
use Rattle.jn_node_laws.proofs.Nodes.{moved}

-- ---- instructions of two parts

pub record Split (c xs ys : List Instr) (s e : ℕ) : Type 0 where
  pub mid : ℕ
  pub front : Run c xs s mid
  pub back : Run c ys mid e

pub split : (c xs ys : List Instr) (s e : ℕ) → Run c (xs ++ ys) s e → Split c xs ys s e
split c [] ys s e h = record { mid = s; front = refl; back = h }
split c (x ∷ xs) ys s e h =
    let r = split c xs ys (s + 1) e h.1 in
    record { mid = r.mid; front = (h.0, r.front); back = r.back }

two_more : (c : ℕ) → suc (suc c) ≡ 2 + c
two_more c = omega arith

-- ---- views of paths

view_is : (v : Value) (V : Path) → view_in v ≡ Some V → (o : ℕ) × (v ≡ Reference o V)
view_is (Reference o W) V e = let s : W ≡ V = cc in (o, ap (λ (W : Path). Reference o W) s)
view_is (Number z) V e = cc
view_is (Truth b) V e = cc
view_is Null V e = cc

-- the variable whose value has the view
record SeenVar (xs : List Variable) (q : ℕ) (V : Path) : Type 0 where
  pub y : Variable
  pub among : Among xs y
  pub path : y.var.path ≡ q
  pub object : ℕ
  pub value : y.value ≡ Reference object V

var_seen : (xs : List Variable) (q : ℕ) (V : Path) → view_of_var xs q ≡ Some V → SeenVar xs q V
var_seen [] q V e = cc
var_seen (x ∷ xs) q V e = at (nat_eq q x.var.path) refl (var_seen xs q V)
  where
    at : (t : Bool) → nat_eq q x.var.path ≡ t → (view_of_var xs q ≡ Some V → SeenVar xs q V) → SeenVar (x ∷ xs) q V
    at true is below =
        let v = view_is x.value V (sym (ap (λ (t : Bool). cond t (view_in x.value) (view_of_var xs q)) is) ∙ e) in
        record {
          y = x;
          among = first;
          path = sym (eqb-true q x.var.path is);
          object = v.0;
          value = v.1;
        }
    at false is below =
        let r = below (sym (ap (λ (t : Bool). cond t (view_in x.value) (view_of_var xs q)) is) ∙ e) in
        record { y = r.y; among = later r.among; path = r.path; object = r.object; value = r.value }

module _ (p : Program) (i : Image) (n : Naming) (m : ℕ) (K : Knows) (T : Type 0) (Stands : T → Frame → Heap → Type 0)
    (code : ℕ) (it : Code) (there : slice_get i.codes code ≡ Some it) (r : Frame) where
  -- the class is had, by so many quiet instructions
  pub record HadBy (steps s e : ℕ) (lv zs a : List ℤ) (kp : Bool) (V : Path) : Type 0 where
    pub to : ℕ
    pub class : slice_get n.classes to ≡ Some V
    pub on : quiet i m steps (active code s lv zs kp) a ≡ Some (active code e lv (pos to ∷ zs) kp, a)

  -- CLS
  pub class_known : (s k : ℕ) (V : Path) (lv zs a : List ℤ) (kp : Bool) → slice_get n.classes k ≡ Some V →
      At it.instrs s (ins.Cls k) → HadBy 1 s (s + 1) lv zs a kp V
  class_known s k V lv zs a kp cls at = record {
    to = k;
    class = cls;
    on = quiet_one p i n m K (active code s lv zs kp) (active code (s + 1) lv (pos k ∷ zs) kp) a a
        (moved p i n m K T Stands code it there r s (ins.Cls k) lv zs a kp at);
  }

module _ (p : Program) (i : Image) (n : Naming) (m : ℕ) (K : Knows) (T : Type 0) (Stands : T → Frame → Heap → Type 0)
    (code : ℕ) (it : Code) (there : slice_get i.codes code ≡ Some it) (r : Frame) (rows : RowsAre p i n)
    (few : FewNumbers n) where
  abbrev Had : (steps s e : ℕ) (lv zs a : List ℤ) (kp : Bool) → Path → Type 0
  Had = HadBy p i n m K T Stands code it there r

  -- the local of a path has the word of a reference with the path's view
  record SeenWord (f : Frame) (x : World) (lv : List ℤ) (q : ℕ) (V : Path) : Type 0 where
    pub word : ℤ
    pub at : slice_get lv q ≡ Some word
    pub object : ℕ
    pub is : IsWord p n x.firsts (Reference object V) word

  seen_word : (here : Site) (l : Layout) (f : Frame) (x : World) (lv zs : List ℤ) (q : ℕ) (V : Path) →
      PlacedOn p n it r here l f x lv zs → frame_views f q ≡ Some V → SeenWord f x lv q V
  seen_word here l f x lv zs q V placed e = at (nat_eq q 0) refl
    where
      at : (t : Bool) → nat_eq q 0 ≡ t → SeenWord f x lv q V
      at true is =
          let v = view_is f.this V
          (sym (ap (λ (t : Bool). cond t (view_in f.this) (view_of_var f.vars q)) is) ∙ e) in
          let z = placed.this in
          record {
            word = z.0;
            at = ap (λ (q : ℕ). slice_get lv q) (eqb-true q 0 is) ∙ z.1;
            object = v.0;
            is = subst (λ (v : Value). IsWord p n x.firsts v z.0) v.1 z.2;
          }
      at false is =
          let v = var_seen f.vars q V
          (sym (ap (λ (t : Bool). cond t (view_in f.this) (view_of_var f.vars q)) is) ∙ e) in
          let z = placed.locals v.y v.among in
          record {
            word = z.0;
            at = ap (λ (q : ℕ). slice_get lv q) (sym v.path) ∙ z.1;
            object = v.object;
            is = subst (λ (v : Value). IsWord p n x.firsts v z.0) v.value z.2;
          }

  -- ---- names taken off

  -- the number is one
  numbered_low : (u : ℕ) (V : Path) → slice_get n.classes u ≡ Some V → numbered u ≡ Some u
  numbered_low u V e =
      let low = slice_get_within n.classes u V e in
      let most = few.classes in
      ap (λ (t : Bool). let o : Option ℕ = if t then None else Some u in o)
      (ne_eqb u 65535 (λ same. omega (arith, low, most, same)))

  pub ups_found : (c k : ℕ) (V : Path) → slice_get n.classes k ≡ Some V → c < length V →
      (j : ℕ) × (ups_of i c k ≡ Some j) × (slice_get n.classes j ≡ Some (drop c V))
  ups_found zero k V e lt = (k, refl, e)
  ups_found (suc c) k [] e lt = absurd (omega (arith, lt))
  ups_found (suc c) k (C ∷ []) e lt = absurd (omega (arith, lt))
  ups_found (suc c) k (C ∷ (D ∷ P)) e lt =
      let row = row_at p i n rows (C ∷ (D ∷ P)) k e in
      let up : slice_get n.classes row.0.up ≡ Some (D ∷ P) = row.2.up in
      let r = ups_found c row.0.up (D ∷ P) up (omega (arith, lt)) in (
        r.0,
        ap (option_and_then (ups_of i c))
            (ap (option_and_then (λ (r : ClassRow). numbered r.up)) row.1 ∙ numbered_low row.0.up (D ∷ P) up)
            ∙ r.1,
        r.2,
      )

  -- ---- names added

  -- where quiet instructions lead from an operand to the number of the class
  pub record Leads (steps s e k : ℕ) (lv zs a : List ℤ) (kp : Bool) (V : Path) : Type 0 where
    pub to : ℕ
    pub class : slice_get n.classes to ≡ Some V
    pub on : quiet i m steps (active code s lv (pos k ∷ zs) kp) a ≡ Some (active code e lv (pos to ∷ zs) kp, a)

  pub downs_lead : (ns R : Path) (s e k : ℕ) (lv zs a : List ℤ) (kp : Bool) → slice_get n.classes k ≡ Some R →
      IsNamespace p (ns ++ R) → Run it.instrs (downs ns) s e → Leads (length (downs ns)) s e k lv zs a kp (ns ++ R)
  downs_lead [] R s e k lv zs a kp at space runs = record {
    to = k;
    class = at;
    on = ap (λ (e : ℕ). let o : Option (machine.Frame × List ℤ) = Some (active code e lv (pos k ∷ zs) kp, a) in o)
        (sym runs);
  }
  downs_lead (C ∷ ns) R s e k lv zs a kp at space runs =
      let two = split it.instrs (downs ns) (ins.Down C.0 ∷ []) s e runs in
      let d = downs_lead ns R s two.mid k lv zs a kp at space.0 two.front in
      let row = row_at p i n rows (ns ++ R) d.to d.class in
      let next = place_of n.classes (C ∷ (ns ++ R)) ((rows.classes.exact (C ∷ (ns ++ R))).1 space) in
      let member = (row.2.members C next.0).1 next.1 in
      let g = active code two.mid lv (pos d.to ∷ zs) kp in
      let mv : move i m g a ≡ Goes (active code (two.mid + 1) lv (pos next.0 ∷ zs) kp) a [] =
      moved p i n m K T Stands code it there r two.mid (ins.Down C.0) lv (pos d.to ∷ zs) a kp two.back.0
      ∙ some_goes machine.Stuck (slice_get i.classes d.to) row.0
      (λ (row : ClassRow). on_some machine.Null (member_in row C.0) (λ k. machine.next g (pos k ∷ zs) a)) row.1
      ∙ some_goes machine.Null (member_in row.0 C.0) next.0 (λ k. machine.next g (pos k ∷ zs) a) member in
      record {
        to = next.0;
        class = next.1;
        on = ap (λ (c : ℕ). quiet i m c (active code s lv (pos k ∷ zs) kp) a)
            (length-append (downs ns) (ins.Down C.0 ∷ []))
            ∙ quiet_then p i n m K (length (downs ns)) 1 (active code s lv (pos k ∷ zs) kp) g a a _ d.on
            (quiet_one p i n m K g (active code (two.mid + 1) lv (pos next.0 ∷ zs) kp) a a mv
            ∙ ap (λ (e : ℕ). let o : Option (machine.Frame × List ℤ) = Some
            (active code e lv (pos next.0 ∷ zs) kp, a) in o) (sym two.back.1));
      }

  -- UP, where there is one
  up_leads : (c s e k : ℕ) (V : Path) (lv zs a : List ℤ) (kp : Bool) → slice_get n.classes k ≡ Some V → c < length V →
      Run it.instrs (up_by c) s e → Leads (length (up_by c)) s e k lv zs a kp (drop c V)
  up_leads zero s e k V lv zs a kp at lt runs = record {
    to = k;
    class = at;
    on = ap (λ (e : ℕ). let o : Option (machine.Frame × List ℤ) = Some (active code e lv (pos k ∷ zs) kp, a) in o)
        (sym runs);
  }
  up_leads (suc c) s e k V lv zs a kp at lt runs =
      let u = ups_found (suc c) k V at lt in
      let g = active code s lv (pos k ∷ zs) kp in
      let mv : move i m g a ≡ Goes (active code (s + 1) lv (pos u.0 ∷ zs) kp) a [] =
      moved p i n m K T Stands code it there r s (ins.Up (suc c)) lv (pos k ∷ zs) a kp runs.0
      ∙ some_goes machine.Null (ups_of i (suc c) k) u.0 (λ k. machine.next g (pos k ∷ zs) a) u.1 in
      record {
        to = u.0;
        class = u.2;
        on = quiet_one p i n m K g (active code (s + 1) lv (pos u.0 ∷ zs) kp) a a mv
            ∙ ap (λ (e : ℕ). let o : Option (machine.Frame × List ℤ) = Some
            (active code e lv (pos u.0 ∷ zs) kp, a) in o) (sym runs.1);
      }

  -- ---- the class of an atom

  -- LOAD and VIEWOF
  viewed_path : (here : Site) (l : Layout) (f : Frame) (x : World) (lv zs a : List ℤ) (kp : Bool) (s q : ℕ) (V : Path) →
      PlacedOn p n it r here l f x lv zs → Matches p i n x a → frame_views f q ≡ Some V → At it.instrs s (ins.Load q) →
      At it.instrs (s + 1) ins.Viewof → Had 2 s (s + 1 + 1) lv zs a kp V
  viewed_path here l f x lv zs a kp s q V placed ma e at_load at_view =
      let w = seen_word here l f x lv zs q V placed e in
      let is = w.is.is in
      let low = (block_low i n x.heap.objects x.firsts 0 (length a) w.object is.1 ma.blocks is.3).3 in
      let small = ma.small in
      let ref : Ref = record { view = is.0; cell = is.1.cell } in
      let g = active code s lv zs kp in
      let g2 = active code (s + 1) lv (w.word ∷ zs) kp in
      let mv : move i m g a ≡ Goes g2 a [] =
      moved p i n m K T Stands code it there r s (ins.Load q) lv zs a kp at_load
      ∙ some_goes machine.Stuck (slice_get lv q) w.word (λ (z : ℤ). machine.next g (z ∷ zs) a) w.at in
      let mv2 : move i m g2 a ≡ Goes (active code (s + 1 + 1) lv (pos is.0 ∷ zs) kp) a [] =
      moved p i n m K T Stands code it there r (s + 1) ins.Viewof lv (w.word ∷ zs) a kp at_view
      ∙ some_goes machine.Null (ref_in w.word) ref (λ (r : Ref). machine.next g2 (pos r.view ∷ zs) a)
      (ap ref_in is.5 ∙ ref_in_word ref (omega (arith, low, small))) in
      record {
        to = is.0;
        class = is.2;
        on = quiet_then p i n m K 1 1 g g2 a a _ (quiet_one p i n m K g g2 a a mv)
            (quiet_one p i n m K g2 (active code (s + 1 + 1) lv (pos is.0 ∷ zs) kp) a a mv2);
      }

  seen_some : (f : Frame) (q k : ℕ) (c : Anchor) → c ≡ Up q k → AnchorSeen (frame_views f) c →
      (V : Path) × (frame_views f q ≡ Some V)
  seen_some f q k c e sn = at (frame_views f q) refl (subst (λ (c : Anchor). AnchorSeen (frame_views f) c) e sn)
    where
      at : (o : Option Path) → frame_views f q ≡ o → AnchorSeen (frame_views f) (Up q k) → (V : Path) ×
          (frame_views f q ≡ Some V)
      at (Some V) e sn = (V, e)
      at None e sn = cc

  -- a class of the universe is a namespace
  namespace : (V : Path) → InUniverse p V → IsNamespace p V
  namespace [] u = absurd u
  namespace (C ∷ P) u = u

  -- What the code of an atom's class gives: the class that the atom names, by the views of the paths.
  pub class_had : (here : Site) (l : Layout) (f : Frame) (x : World) (lv zs a : List ℤ) (kp : Bool) (y : Atom)
      (xs : List Instr) (s e : ℕ) → PlacedOn p n it r here l f x lv zs → Matches p i n x a → ClassCode n y xs →
      Run it.instrs xs s e → AnchorSeen (frame_views f) y.anchor → AnchorKeeps f y →
      InUniverse p (atom_at (view_at (frame_views f)) y) →
      Had (length xs) s e lv zs a kp (atom_at (view_at (frame_views f)) y)
  class_had here l f x lv zs a kp y xs s e placed ma (fixed k root cls is) runs sn keeps uni =
      let at = subst (λ (xs : List Instr). Run it.instrs xs s e) is runs in
      let h = class_known p i n m K T Stands code it there r s k (y.names ++ y.exact) lv zs a kp cls at.0 in
      let whole : y.names ++ y.exact ≡ atom_at (view_at (frame_views f)) y =
      ap (λ (es : List Name). y.names ++ es) (sym (append-nil y.exact)
      ∙ ap (λ (c : Anchor). y.exact ++ anchor_at (view_at (frame_views f)) c) (sym root)) in
      record {
        to = h.to;
        class = h.class ∙ ap (λ (V : Path). Some V) whole;
        on = ap (λ (xs : List Instr). quiet i m (length xs) (active code s lv zs kp) a) is ∙ h.on
            ∙ ap (λ (e : ℕ). let o : Option (machine.Frame × List ℤ) = Some
            (active code e lv (pos h.to ∷ zs) kp, a) in o) (sym at.1);
      }
  class_had here l f x lv zs a kp y xs s e placed ma (seen q k up is) runs sn keeps uni =
      let at = subst (λ (xs : List Instr). Run it.instrs xs s e) is runs in
      let two = split it.instrs (up_by k) (downs (y.names ++ y.exact)) (s + 1 + 1) e at.1.1 in
      let v = seen_some f q k y.anchor up sn in
      let h = viewed_path here l f x lv zs a kp s q v.0 placed ma v.1 at.0 at.1.0 in
      let u = up_leads k (s + 1 + 1) two.mid h.to v.0 lv zs a kp h.class (keeps q k v.0 up v.1) two.front in
      let whole : (y.names ++ y.exact) ++ drop k v.0 ≡ atom_at (view_at (frame_views f)) y =
      append_assoc y.names y.exact (drop k v.0)
      ∙ ap (λ (es : List Name). y.names ++ (y.exact ++ es))
      (ap (λ (o : Option Path). drop k (unwrap_or o [])) (sym v.1)
      ∙ ap (λ (c : Anchor). anchor_at (view_at (frame_views f)) c) (sym up)) in
      let d = downs_lead (y.names ++ y.exact) (drop k v.0) two.mid e u.to lv zs a kp u.class
      (subst (λ (V : Path). IsNamespace p V) (sym whole)
      (namespace (atom_at (view_at (frame_views f)) y) uni)) two.back in
      record {
        to = d.to;
        class = d.class ∙ ap (λ (V : Path). Some V) whole;
        on = ap (λ (xs : List Instr). quiet i m (length xs) (active code s lv zs kp) a) is
            ∙ ap (λ (c : ℕ). quiet i m (suc (suc c)) (active code s lv zs kp) a)
            (length-append (up_by k) (downs (y.names ++ y.exact)))
            ∙ ap (λ (c : ℕ). quiet i m c (active code s lv zs kp) a)
            (two_more (length (up_by k) + length (downs (y.names ++ y.exact))))
            ∙ quiet_then p i n m K 2 (length (up_by k) + length (downs (y.names ++ y.exact)))
            (active code s lv zs kp) (active code (s + 1 + 1) lv (pos h.to ∷ zs) kp) a a _ h.on
            (quiet_then p i n m K (length (up_by k)) (length (downs (y.names ++ y.exact)))
            (active code (s + 1 + 1) lv (pos h.to ∷ zs) kp)
            (active code two.mid lv (pos u.to ∷ zs) kp) a a _ u.on d.on);
      }
