-- The kinds of what stands for the own act of each form.
use Rattle.std.proofs.Common.{◌≡◌, ℕ, zero, suc, ◌+◌, ◌<◌, ◌≤◌, List, [], ◌∷◌, ◌++◌, length, map, drop, Option, Some, None, Bool, true, false, not, ◌&&◌, refl, sym, ap, ◌∙◌, subst, append_assoc, arith}
use Rattle.std.specs.Prelude.{slice_get, reverse, is_some}
use Rattle.std.specs.Option.{option_map, option_and_then}
use Rattle.std.proofs.lemmas.Bool.{lt-ltb}
use Rattle.std.proofs.lemmas.List.{reverse-append}
use Rattle.std.proofs.lemmas.Option.{slice_get_within, slice_get-map}
use Rattle.jn_base.specs.declared.tree.Name.{Name}
use Rattle.jn_base.specs.declared.tree.Op.{Op}
use Rattle.jn_base.specs.declared.tree.Program.{Program}
use Rattle.jn_base.specs.declared.types.Ty.{Ty}
use Rattle.jn_base.specs.declared.types.Ty.TheVariants as ty
use Rattle.jn_base.specs.Atoms.{Atom}
use Rattle.jn_code.specs.declared.kind.OperandKind.{OperandKind}
use Rattle.jn_code.specs.declared.kind.OperandKind.TheVariants as kind
use Rattle.jn_code.specs.declared.instr.Instr.{Instr}
use Rattle.jn_code.specs.declared.instr.Instr.TheVariants as ins
use Rattle.jn_code.specs.declared.image.Image.{Image}
use Rattle.jn_code.specs.declared.image.Code.{Code}
use Rattle.jn_code.specs.declared.image.Shape.{Shape}
use Rattle.jn_code.specs.Kinds.{kind_of, result_kind, local_kind, locals_of, argument_kinds, each_some, takes, gives, list_of, after_it, target_of, goes_on}
use Rattle.jn_code.specs.Rows.{kind_eq}
use Rattle.jn_code.specs.Valid.{number_is_there, local_is_there, is_place, all_suit, returns_well, own_fault}
use Rattle.jn_agree.specs.declared.selectors.MethodSel.{MethodSel}
use Rattle.jn_agree.specs.declared.selectors.FieldSel.{FieldSel}
use Rattle.jn_agree.specs.Naming.{Naming}
use Rattle.jn_agree.specs.Rows.{RowsAre, kind_of_type}
use Rattle.jn_agree.specs.Spans.{Spans}
use Rattle.jn_agree.specs.Places.{At, Run, bit, dropping, ClassCode, FieldOf, MethodOf, equal, operator, Strict, add, sub, mul, div, rem, lt, le, gt, ge, eq, ne, deciding, decided_by, HasKind, binding}
use Rattle.jn_span_laws.specs.LawsOfForms.{AnchorRefers}
use Rattle.jn_span_laws.proofs.Spanned.{joined, deciding_part}
use Rattle.jn_span_laws.proofs.Forms as forms
use Rattle.jn_place_spans.specs.LawsOfNodes.{left_of, arguments, operand_kind, answer_kind, InTurn, none, one, NodesOf, NodesSpan}

-- ---- operands that are asked for, kind by kind

drop_asked : (ws ks : List OperandKind) → drop (length (each_some ws)) (ws ++ ks) ≡ ks
drop_asked [] ks = refl
drop_asked (a ∷ ws) ks = drop_asked ws ks

many_asked : (ws ks : List OperandKind) → length (each_some ws) ≤ length (ws ++ ks)
many_asked [] ks = omega arith
many_asked (a ∷ ws) ks = let l = many_asked ws ks in omega (arith, l)

suit_asked : (ws ks : List OperandKind) → all_suit (each_some ws) (ws ++ ks) ≡ true
suit_asked [] ks = refl
suit_asked (a ∷ ws) ks =
    ap (λ (b : Bool). kind_eq a a && b) (suit_asked ws ks) ∙ ap (λ (b : Bool). b && true) (forms.same_kind a)

pub no_arguments : (xs : List ℕ) → length xs ≡ 0 → reverse (map kind_of xs) ≡ []
no_arguments [] e = refl
no_arguments (x ∷ xs) e = cc

pub turned : (k : OperandKind) (vs ks : List OperandKind) → reverse (k ∷ vs) ++ ks ≡ reverse vs ++ (k ∷ ks)
turned k vs ks =
    ap (λ (ls : List OperandKind). ls ++ ks) (reverse-append (k ∷ []) vs) ∙ append_assoc (reverse vs) (k ∷ []) ks

module _ (p : Program) (i : Image) (n : Naming) (c : Code) (rows : RowsAre p i n) where
  abbrev Part : ℕ → ℕ → List OperandKind → List OperandKind → Type 0
  Part s e ks ls = Spans i c s e ks ls

  -- an instruction that asks for operands of these kinds, each of one kind
  record Asks (x : Instr) (ws : List OperandKind) (o : Option OperandKind) : Type 0 where
    target : target_of x ≡ None
    on : goes_on x ≡ true
    number : number_is_there i x ≡ true
    local : local_is_there c x ≡ true
    returns : returns_well c x ≡ true
    takes_it : takes i c x ≡ each_some ws
    gives_it : gives i c x ≡ o

  asked : (s : ℕ) (x : Instr) (ws : List OperandKind) (o : Option OperandKind) (ks : List OperandKind)
      → At c.instrs s x → Asks x ws o → length (list_of o ++ ks) ≤ c.stack → Part s (s + 1) (ws ++ ks) (list_of o ++ ks)
  asked s x ws o ks at a room =
      subst (λ (ls : List OperandKind). Part s (s + 1) (ws ++ ks) ls) after
      (forms.one i c s x (ws ++ ks) at a.target a.on (record {
        number = a.number;
        local = a.local;
        place = ap (is_place c) a.target;
        many = subst (λ (ts : List (Option OperandKind)). length ts ≤ length (ws ++ ks)) (sym a.takes_it)
            (many_asked ws ks);
        low = subst (λ (ls : List OperandKind). length ls ≤ c.stack) (sym after) room;
        suits = ap (λ (ts : List (Option OperandKind)). all_suit ts (ws ++ ks)) a.takes_it ∙ suit_asked ws ks;
        returns = a.returns;
      }))
    where
      after : after_it i c x (ws ++ ks) ≡ list_of o ++ ks
      after =
          ap (λ (q : Option OperandKind). list_of q ++ drop (length (takes i c x)) (ws ++ ks)) a.gives_it
          ∙ ap (λ (ts : List (Option OperandKind)). list_of o ++ drop (length ts) (ws ++ ks)) a.takes_it
          ∙ ap (λ (ls : List OperandKind). list_of o ++ ls) (drop_asked ws ks)

  alone : (s e : ℕ) (x : Instr) (ws : List OperandKind) (o : Option OperandKind) (ks : List OperandKind)
      → Run c.instrs (x ∷ []) s e → Asks x ws o → length (list_of o ++ ks) ≤ c.stack
      → Part s e (ws ++ ks) (list_of o ++ ks)
  alone s e x ws o ks runs a room =
      forms.moved_end i c s e (s + 1) (ws ++ ks) (list_of o ++ ks) runs.1 (asked s x ws o ks runs.0 a room)

  -- ---- what the rows say of numbers

  shape_at : (m : Name) (j : ℕ) (shape : Shape) → MethodOf n m j shape → slice_get i.methods j ≡ Some shape
  shape_at m j shape sel =
      ap (λ (ks : List Shape). slice_get ks j) (sym rows.shapes)
      ∙ slice_get-map (λ (x : MethodSel). x.shape) n.methods j
      ∙ ap (option_map (λ (x : MethodSel). x.shape)) sel.at

  kind_at : (f : Name) (j k : ℕ) → FieldOf n f j k → slice_get i.fields j ≡ Some k
  kind_at f j k sel =
      ap (λ (ks : List ℕ). slice_get ks j) (sym rows.kinds) ∙ slice_get-map (λ (x : FieldSel). x.kind) n.fields j
      ∙ ap (option_map (λ (x : FieldSel). x.kind)) sel.at

  method_there : (j : ℕ) (shape : Shape) → slice_get i.methods j ≡ Some shape → j < length i.methods
  method_there j shape e = slice_get_within i.methods j shape e

  pub local_is : (q k : ℕ) → HasKind c q k → local_kind c q ≡ Some (kind_of k)
  local_is q k has = slice_get-map kind_of (c.params ++ c.locals) q ∙ ap (option_map kind_of) has

  local_there : (q k : ℕ) → HasKind c q k → q < length (locals_of c)
  local_there q k has = slice_get_within (locals_of c) q (kind_of k) (local_is q k has)

  -- ---- each instruction with its kinds

  stores : (q k : ℕ) → HasKind c q k → Asks (ins.Store q) (kind_of k ∷ []) None
  stores q k has = record {
    target = refl;
    on = refl;
    number = refl;
    local = lt-ltb q (length (locals_of c)) (local_there q k has);
    returns = refl;
    takes_it = ap (λ (o : Option OperandKind). o ∷ []) (local_is q k has);
    gives_it = refl;
  }

  gets : (f : Name) (j k : ℕ) → FieldOf n f j k → Asks (ins.Get j) (kind.Reference ∷ []) (Some (kind_of k))
  gets f j k sel = record {
    target = refl;
    on = refl;
    number = lt-ltb j (length i.fields) (slice_get_within i.fields j k (kind_at f j k sel));
    local = refl;
    returns = refl;
    takes_it = refl;
    gives_it = ap (option_map kind_of) (kind_at f j k sel);
  }

  puts : (f : Name) (j k : ℕ) → FieldOf n f j k → Asks (ins.Put j) (kind_of k ∷ kind.Reference ∷ []) None
  puts f j k sel = record {
    target = refl;
    on = refl;
    number = lt-ltb j (length i.fields) (slice_get_within i.fields j k (kind_at f j k sel));
    local = refl;
    returns = refl;
    takes_it = ap (λ (o : Option ℕ). option_map kind_of o ∷ (Some kind.Reference ∷ [])) (kind_at f j k sel);
    gives_it = refl;
  }

  calls : (m : Name) (j : ℕ) (shape : Shape) → MethodOf n m j shape
      → Asks (ins.Call j) (arguments shape ++ (kind.Reference ∷ [])) (result_kind shape.result)
  calls m j shape sel = record {
    target = refl;
    on = refl;
    number = lt-ltb j (length i.methods) (method_there j shape (shape_at m j shape sel));
    local = refl;
    returns = refl;
    takes_it = ap (λ (o : Option Shape). each_some (argument_kinds o ++ (kind.Reference ∷ [])))
        (shape_at m j shape sel);
    gives_it = ap (option_and_then (λ (h : Shape). result_kind h.result)) (shape_at m j shape sel);
  }

  calls_at : (m : Name) (j : ℕ) (shape : Shape) → MethodOf n m j shape
      → Asks (ins.Callat j) (kind.Class ∷ (arguments shape ++ (kind.Reference ∷ []))) (result_kind shape.result)
  calls_at m j shape sel = record {
    target = refl;
    on = refl;
    number = lt-ltb j (length i.methods) (method_there j shape (shape_at m j shape sel));
    local = refl;
    returns = refl;
    takes_it = ap (λ (o : Option Shape). Some kind.Class ∷ each_some (argument_kinds o ++ (kind.Reference ∷ [])))
        (shape_at m j shape sel);
    gives_it = ap (option_and_then (λ (h : Shape). result_kind h.result)) (shape_at m j shape sel);
  }

  builds : (m : Name) (j : ℕ) (shape : Shape) → MethodOf n m j shape
      → Asks (ins.Ctor j) (kind.Reference ∷ arguments shape) (Some kind.Reference)
  builds m j shape sel = record {
    target = refl;
    on = refl;
    number = lt-ltb j (length i.methods) (method_there j shape (shape_at m j shape sel));
    local = refl;
    returns = refl;
    takes_it = ap (λ (o : Option Shape). Some kind.Reference ∷ each_some (argument_kinds o)) (shape_at m j shape sel);
    gives_it = refl;
  }

  -- an instruction without a number or a local
  plain : (x : Instr) (ws : List OperandKind) (o : Option OperandKind) → target_of x ≡ None → goes_on x ≡ true
      → number_is_there i x ≡ true → local_is_there c x ≡ true → returns_well c x ≡ true → takes i c x ≡ each_some ws
      → gives i c x ≡ o → Asks x ws o
  plain x ws o a b d e f g h = record {
    target = a;
    on = b;
    number = d;
    local = e;
    returns = f;
    takes_it = g;
    gives_it = h;
  }

  classes : (k : ℕ) → k < length i.classes → Asks (ins.Cls k) [] (Some kind.Class)
  classes k low = plain (ins.Cls k) [] (Some kind.Class) refl refl (lt-ltb k (length i.classes) low) refl refl refl refl

  -- ---- a value that is kept or dropped

  dropped : (keeps : Bool) (r s e : ℕ) (ks : List OperandKind) → Run c.instrs (dropping keeps r) s e
      → length ks ≤ c.stack → Part s e (list_of (result_kind r) ++ ks) (left_of keeps r ++ ks)
  dropped true r s e ks runs room =
      forms.moved_end i c s e s (list_of (result_kind r) ++ ks) (list_of (result_kind r) ++ ks) runs
      (forms.none i c s (list_of (result_kind r) ++ ks))
  dropped false zero s e ks runs room = forms.moved_end i c s e s ks ks runs (forms.none i c s ks)
  dropped false (suc r) s e ks runs room =
      forms.moved_end i c s e (s + 1) (kind_of (suc r) ∷ ks) ks runs.1
      (forms.one i c s ins.Pop (kind_of (suc r) ∷ ks) runs.0 refl refl (record {
        number = refl;
        local = refl;
        place = refl;
        many = omega arith;
        low = room;
        suits = refl;
        returns = refl;
      }))

  room_of : (r : ℕ) (ks : List OperandKind) → suc (length ks) ≤ c.stack
      → length (list_of (result_kind r) ++ ks) ≤ c.stack
  room_of zero ks room = omega (arith, room)
  room_of (suc r) ks room = room

  -- ---- calls

  call : (m : Name) (j : ℕ) (shape : Shape) (keeps : Bool) (s e : ℕ) (ks : List OperandKind) → MethodOf n m j shape
      → Run c.instrs (ins.Call j ∷ dropping keeps shape.result) s e → suc (length ks) ≤ c.stack
      → Part s e (arguments shape ++ (kind.Reference ∷ ks)) (left_of keeps shape.result ++ ks)
  call m j shape keeps s e ks sel runs room =
      subst (λ (js : List OperandKind). Part s e js (left_of keeps shape.result ++ ks))
      (append_assoc (arguments shape) (kind.Reference ∷ []) ks)
      (joined i c s (s + 1) e ((arguments shape ++ (kind.Reference ∷ [])) ++ ks)
      (list_of (result_kind shape.result) ++ ks) (left_of keeps shape.result ++ ks)
      (asked s (ins.Call j) (arguments shape ++ (kind.Reference ∷ [])) (result_kind shape.result) ks runs.0
      (calls m j shape sel) (room_of shape.result ks room))
      (dropped keeps shape.result (s + 1) e ks runs.1 (omega (arith, room))))

  super_call : (m : Name) (k j : ℕ) (shape : Shape) (keeps : Bool) (s e : ℕ) (ks : List OperandKind)
      → k < length i.classes → MethodOf n m j shape
      → Run c.instrs (ins.Cls k ∷ (ins.Callat j ∷ dropping keeps shape.result)) s e
      → suc (length (arguments shape ++ (kind.Reference ∷ ks))) ≤ c.stack → suc (length ks) ≤ c.stack
      → Part s e (arguments shape ++ (kind.Reference ∷ ks)) (left_of keeps shape.result ++ ks)
  super_call m k j shape keeps s e ks low sel runs room less =
      joined i c s (s + 1) e (arguments shape ++ (kind.Reference ∷ ks))
      (kind.Class ∷ (arguments shape ++ (kind.Reference ∷ ks))) (left_of keeps shape.result ++ ks)
      (asked s (ins.Cls k) [] (Some kind.Class) (arguments shape ++ (kind.Reference ∷ ks)) runs.0 (classes k low) room)
      (subst (λ (js : List OperandKind). Part (s + 1) e (kind.Class ∷ js) (left_of keeps shape.result ++ ks))
      (append_assoc (arguments shape) (kind.Reference ∷ []) ks)
      (joined i c (s + 1) (s + 1 + 1) e (kind.Class ∷ ((arguments shape ++ (kind.Reference ∷ [])) ++ ks))
      (list_of (result_kind shape.result) ++ ks) (left_of keeps shape.result ++ ks)
      (asked (s + 1) (ins.Callat j) (kind.Class ∷ (arguments shape ++ (kind.Reference ∷ [])))
      (result_kind shape.result) ks runs.1.0 (calls_at m j shape sel) (room_of shape.result ks less))
      (dropped keeps shape.result (s + 1 + 1) e ks runs.1.1 (omega (arith, less)))))

  behind_more : (ws ks : List OperandKind) → suc (length ks) ≤ length (ws ++ (kind.Reference ∷ ks))
  behind_more [] ks = omega arith
  behind_more (a ∷ ws) ks = let l = behind_more ws ks in omega (arith, l)

  super : (m : Name) (k j : ℕ) (shape : Shape) (keeps : Bool) (s e : ℕ) (ks : List OperandKind)
      → k < length i.classes → MethodOf n m j shape
      → Run c.instrs (ins.Cls k ∷ (ins.Callat j ∷ dropping keeps shape.result)) s e
      → suc (length (arguments shape ++ (kind.Reference ∷ ks))) ≤ c.stack
      → Part s e (arguments shape ++ (kind.Reference ∷ ks)) (left_of keeps shape.result ++ ks)
  super m k j shape keeps s e ks low sel runs room =
      super_call m k j shape keeps s e ks low sel runs room
      (let l = behind_more (arguments shape) ks in omega (arith, l, room))

  bare_super : (m : Name) (k j : ℕ) (shape : Shape) (keeps : Bool) (s e : ℕ) (ks : List OperandKind)
      → k < length i.classes → MethodOf n m j shape → length shape.params ≡ 0
      → local_kind c 0 ≡ Some kind.Reference
      → Run c.instrs (ins.Load 0 ∷ (ins.Cls k ∷ (ins.Callat j ∷ dropping keeps shape.result))) s e
      → suc (suc (length ks)) ≤ c.stack → Part s e ks (left_of keeps shape.result ++ ks)
  bare_super m k j shape keeps s e ks low sel empty this runs room =
      joined i c s (s + 1) e ks (kind.Reference ∷ ks) (left_of keeps shape.result ++ ks)
      (forms.loads i c s 0 kind.Reference ks runs.0 this (omega (arith, room)))
      (subst (λ (ws : List OperandKind). Part (s + 1) e (ws ++ (kind.Reference ∷ ks))
      (left_of keeps shape.result ++ ks))
      (no_arguments shape.params empty)
      (super m k j shape keeps (s + 1) e ks low sel runs.1
      (subst (λ (ws : List OperandKind). suc (length (ws ++ (kind.Reference ∷ ks))) ≤ c.stack)
      (sym (no_arguments shape.params empty)) room)))

  -- ---- arguments

  had : (vs ks : List OperandKind) (s t : ℕ) → InTurn i c vs ks s t → Part s t ks (reverse vs ++ ks)
  had vs ks s t (none _ _ _ end) = forms.moved_end i c s t s ks ks end (forms.none i c s ks)
  had vs ks s t (one k ws _ _ m _ first rest) =
      subst (λ (ls : List OperandKind). Part s t ks ls) (sym (turned k ws ks))
      (joined i c s m t ks (k ∷ ks) (reverse ws ++ (k ∷ ks)) first (had ws (k ∷ ks) m t rest))

  -- ---- views and new objects

  view : (x : Atom) (cls : List Instr) (s e : ℕ) (ks : List OperandKind) → length n.classes ≤ length i.classes
      → AnchorRefers c x → ClassCode n x cls → Run c.instrs (cls ++ (ins.Conv ∷ [])) s e
      → suc (suc (length ks)) ≤ c.stack → Part s e (kind.Reference ∷ ks) (kind.Reference ∷ ks)
  view x cls s e ks many refers code runs room =
      let two = forms.split_end i c cls (ins.Conv ∷ []) s e runs in
      joined i c s two.0 e (kind.Reference ∷ ks) (kind.Class ∷ (kind.Reference ∷ ks)) (kind.Reference ∷ ks)
      (forms.class i c n x cls s two.0 (kind.Reference ∷ ks) many refers code two.1 room)
      (alone two.0 e ins.Conv (kind.Class ∷ (kind.Reference ∷ [])) (Some kind.Reference) ks two.2
      (plain ins.Conv (kind.Class ∷ (kind.Reference ∷ [])) (Some kind.Reference) refl refl refl refl refl refl refl)
      (omega (arith, room)))

  new_made : (x : Atom) (cls rest : List Instr) (s e : ℕ) (ks ls : List OperandKind)
      → length n.classes ≤ length i.classes
      → AnchorRefers c x → ClassCode n x cls → Run c.instrs (cls ++ (ins.New ∷ rest)) s e → suc (length ks) ≤ c.stack
      → ((m : ℕ) → Run c.instrs rest m e → Part m e (kind.Reference ∷ ks) ls) → Part s e ks ls
  new_made x cls rest s e ks ls many refers code runs room behind =
      let two = forms.split_end i c cls (ins.New ∷ rest) s e runs in
      joined i c s two.0 e ks (kind.Class ∷ ks) ls (forms.class i c n x cls s two.0 ks many refers code two.1 room)
      (joined i c two.0 (two.0 + 1) e (kind.Class ∷ ks) (kind.Reference ∷ ks) ls
      (asked two.0 ins.New (kind.Class ∷ []) (Some kind.Reference) ks two.2.0
      (plain ins.New (kind.Class ∷ []) (Some kind.Reference) refl refl refl refl refl refl refl) room)
      (behind (two.0 + 1) two.2.1))

  make : (x : Atom) (C : Name) (j : ℕ) (shape : Shape) (cls : List Instr) (keeps : Bool) (s e : ℕ)
      (ks : List OperandKind) → length n.classes ≤ length i.classes → AnchorRefers c x → ClassCode n x cls
      → MethodOf n C j shape → Run c.instrs (cls ++ (ins.New ∷ (ins.Ctor j ∷ dropping keeps 3))) s e
      → suc (length (arguments shape ++ ks)) ≤ c.stack → suc (length ks) ≤ c.stack
      → Part s e (arguments shape ++ ks) (left_of keeps 3 ++ ks)
  make x C j shape cls keeps s e ks many refers code sel runs room less =
      new_made x cls (ins.Ctor j ∷ dropping keeps 3) s e (arguments shape ++ ks)
      (left_of keeps 3 ++ ks) many refers code
      runs room
      (λ m run. joined i c m (m + 1) e (kind.Reference ∷ (arguments shape ++ ks)) (kind.Reference ∷ ks)
      (left_of keeps 3 ++ ks)
      (asked m (ins.Ctor j) (kind.Reference ∷ arguments shape) (Some kind.Reference) ks run.0
      (builds C j shape sel) less)
      (dropped keeps 3 (m + 1) e ks run.1 (omega (arith, less))))

  make_bare : (x : Atom) (cls : List Instr) (keeps : Bool) (s e : ℕ) (ks : List OperandKind)
      → length n.classes ≤ length i.classes → AnchorRefers c x → ClassCode n x cls
      → Run c.instrs (cls ++ (ins.New ∷ dropping keeps 3)) s e → suc (length ks) ≤ c.stack
      → Part s e ks (left_of keeps 3 ++ ks)
  make_bare x cls keeps s e ks many refers code runs room =
      new_made x cls (dropping keeps 3) s e ks (left_of keeps 3 ++ ks) many refers code runs room
      (λ m run. dropped keeps 3 m e ks run (omega (arith, room)))

  -- ---- operators

  numbers : (s e : ℕ) (x : Instr) (o : OperandKind) (ks : List OperandKind) → Run c.instrs (x ∷ []) s e
      → Asks x (kind.Int ∷ (kind.Int ∷ [])) (Some o) → suc (length ks) ≤ c.stack
      → Part s e (kind.Int ∷ (kind.Int ∷ ks)) (o ∷ ks)
  numbers s e x o ks runs a room = alone s e x (kind.Int ∷ (kind.Int ∷ [])) (Some o) ks runs a room

  number_op : (x : Instr) (o : OperandKind) → target_of x ≡ None → goes_on x ≡ true → number_is_there i x ≡ true
      → local_is_there c x ≡ true → returns_well c x ≡ true → takes i c x ≡ Some kind.Int ∷ (Some kind.Int ∷ [])
      → gives i c x ≡ Some o → Asks x (kind.Int ∷ (kind.Int ∷ [])) (Some o)
  number_op x o a b d e f g h = plain x (kind.Int ∷ (kind.Int ∷ [])) (Some o) a b d e f g h

  compares : (k : ℕ) → Asks (equal k) (kind_of k ∷ (kind_of k ∷ [])) (Some kind.Bool)
  compares zero = plain ins.Eqr _ (Some kind.Bool) refl refl refl refl refl refl refl
  compares (suc zero) = plain ins.Eqi _ (Some kind.Bool) refl refl refl refl refl refl refl
  compares (suc (suc zero)) = plain ins.Eqb _ (Some kind.Bool) refl refl refl refl refl refl refl
  compares (suc (suc (suc k))) = plain ins.Eqr _ (Some kind.Bool) refl refl refl refl refl refl refl

  inverts : Asks ins.Not (kind.Bool ∷ []) (Some kind.Bool)
  inverts = plain ins.Not (kind.Bool ∷ []) (Some kind.Bool) refl refl refl refl refl refl refl

  operate : (o : Op) (k s e : ℕ) (ks : List OperandKind) → Strict o → Run c.instrs (operator o k) s e
      → suc (length ks) ≤ c.stack → Part s e (operand_kind o k ∷ (operand_kind o k ∷ ks)) (answer_kind o ∷ ks)
  operate _ k s e ks add runs room =
      numbers s e ins.Add kind.Int ks runs (number_op ins.Add kind.Int refl refl refl refl refl refl refl) room
  operate _ k s e ks sub runs room =
      numbers s e ins.Sub kind.Int ks runs (number_op ins.Sub kind.Int refl refl refl refl refl refl refl) room
  operate _ k s e ks mul runs room =
      numbers s e ins.Mul kind.Int ks runs (number_op ins.Mul kind.Int refl refl refl refl refl refl refl) room
  operate _ k s e ks div runs room =
      numbers s e ins.Div kind.Int ks runs (number_op ins.Div kind.Int refl refl refl refl refl refl refl) room
  operate _ k s e ks rem runs room =
      numbers s e ins.Rem kind.Int ks runs (number_op ins.Rem kind.Int refl refl refl refl refl refl refl) room
  operate _ k s e ks lt runs room =
      numbers s e ins.Lt kind.Bool ks runs (number_op ins.Lt kind.Bool refl refl refl refl refl refl refl) room
  operate _ k s e ks le runs room =
      numbers s e ins.Le kind.Bool ks runs (number_op ins.Le kind.Bool refl refl refl refl refl refl refl) room
  operate _ k s e ks gt runs room =
      numbers s e ins.Gt kind.Bool ks runs (number_op ins.Gt kind.Bool refl refl refl refl refl refl refl) room
  operate _ k s e ks ge runs room =
      numbers s e ins.Ge kind.Bool ks runs (number_op ins.Ge kind.Bool refl refl refl refl refl refl refl) room
  operate _ k s e ks eq runs room =
      alone s e (equal k) (kind_of k ∷ (kind_of k ∷ [])) (Some kind.Bool) ks runs (compares k) room
  operate _ k s e ks ne runs room =
      joined i c s (s + 1) e (kind_of k ∷ (kind_of k ∷ ks)) (kind.Bool ∷ ks) (kind.Bool ∷ ks)
      (asked s (equal k) (kind_of k ∷ (kind_of k ∷ [])) (Some kind.Bool) ks runs.0 (compares k) room)
      (alone (s + 1) e ins.Not (kind.Bool ∷ []) (Some kind.Bool) ks runs.1 inverts room)

  decide : (and : Bool) (s m u : ℕ) (ks : List OperandKind) → At c.instrs s (deciding and (m + 1))
      → Part (s + 1) m ks (kind.Bool ∷ ks) → At c.instrs m (ins.Jump u) → Run c.instrs (decided_by and ∷ []) (m + 1) u
      → u < length c.instrs → suc (length ks) ≤ c.stack → Part s u (kind.Bool ∷ ks) (kind.Bool ∷ ks)
  decide and s m u ks at_branch right at_jump runs low room =
      let end = runs.1 in
      forms.moved_end i c s u (m + 1 + 1) (kind.Bool ∷ ks) (kind.Bool ∷ ks) runs.1
      (deciding_part i c and s m ks at_branch (subst (λ (q : ℕ). At c.instrs m (ins.Jump q)) runs.1 at_jump) runs.0
      (branches and (omega (arith, end, low)))
      (forms.own_none i c (ins.Jump (m + 1 + 1)) (kind.Bool ∷ ks) (record {
        number = refl;
        local = refl;
        place = lt-ltb (m + 1 + 1) (length c.instrs) (omega (arith, end, low));
        many = omega arith;
        low = room;
        suits = refl;
        returns = refl;
      })) (decides and) right)
    where
      branches : (and : Bool) → m + 1 < length c.instrs
          → own_fault i c (deciding and (m + 1)) (kind.Bool ∷ ks) ≡ None
      branches true low = forms.own_none i c (ins.Jfalse (m + 1)) (kind.Bool ∷ ks) (record {
        number = refl;
        local = refl;
        place = lt-ltb (m + 1) (length c.instrs) low;
        many = omega arith;
        low = omega (arith, room);
        suits = refl;
        returns = refl;
      })
      branches false low = forms.own_none i c (ins.Jtrue (m + 1)) (kind.Bool ∷ ks) (record {
        number = refl;
        local = refl;
        place = lt-ltb (m + 1) (length c.instrs) low;
        many = omega arith;
        low = omega (arith, room);
        suits = refl;
        returns = refl;
      })

      decides : (and : Bool) → own_fault i c (decided_by and) ks ≡ None
      decides true = forms.own_none i c (ins.Bool 0) ks (record {
        number = refl;
        local = refl;
        place = refl;
        many = omega arith;
        low = room;
        suits = refl;
        returns = refl;
      })
      decides false = forms.own_none i c (ins.Bool 1) ks (record {
        number = refl;
        local = refl;
        place = refl;
        many = omega arith;
        low = room;
        suits = refl;
        returns = refl;
      })

  -- ---- statements

  assign : (q k s e : ℕ) → HasKind c q k → Run c.instrs (ins.Store q ∷ []) s e → Part s e (kind_of k ∷ []) []
  assign q k s e has runs = alone s e (ins.Store q) (kind_of k ∷ []) None [] runs (stores q k has) (omega arith)

  bind : (scratch : ℕ) (final : Bool) (t : Ty) (q s e : ℕ) → HasKind c q (kind_of_type t)
      → Run c.instrs (binding p n scratch c final t q) s e → 1 ≤ c.stack → Part s e (kind_of (kind_of_type t) ∷ []) []
  bind scratch false t q s e has runs room = assign q (kind_of_type t) s e has runs
  bind scratch true ty.Int q s e has runs room = assign q 1 s e has runs
  bind scratch true ty.Bool q s e has runs room = assign q 2 s e has runs
  bind scratch true ty.Null q s e has runs room = assign q 3 s e has runs
  bind scratch true ty.Void q s e has runs room = assign q 3 s e has runs
  bind scratch true (ty.Class xs m) q s e has runs room =
      joined i c s (s + 1) e (kind.Reference ∷ []) (kind.Reference ∷ []) []
      (asked s ins.Check (kind.Reference ∷ []) (Some kind.Reference) [] runs.0
      (plain ins.Check (kind.Reference ∷ []) (Some kind.Reference) refl refl refl refl refl refl refl) room)
      (assign q 3 (s + 1) e has runs.1)

  return_value : (k : OperandKind) (s e : ℕ) → result_kind c.result ≡ Some k → Run c.instrs (ins.Retv ∷ []) s e
      → Part s e (k ∷ []) []
  return_value k s e is runs =
      forms.moved_end i c s e (s + 1) (k ∷ []) [] runs.1
      (forms.returns i c s ins.Retv (k ∷ []) runs.0 refl refl (record {
        number = refl;
        local = refl;
        place = refl;
        many = omega arith;
        low = omega arith;
        suits = ap (λ (o : Option OperandKind). all_suit (o ∷ []) (k ∷ [])) is
            ∙ ap (λ (b : Bool). b && true) (forms.same_kind k);
        returns = ap (λ (o : Option OperandKind). is_some o) is;
      }))

  return_none : (s e : ℕ) → c.result ≡ 0 → Run c.instrs (ins.Ret ∷ []) s e → Part s e [] []
  return_none s e is runs =
      forms.moved_end i c s e (s + 1) [] [] runs.1 (forms.returns i c s ins.Ret [] runs.0 refl refl (record {
        number = refl;
        local = refl;
        place = refl;
        many = omega arith;
        low = omega arith;
        suits = refl;
        returns = ap (λ (k : ℕ). not (is_some (result_kind k))) is;
      }))

  pub nodes : NodesOf p i n c
  nodes = record {
    number = λ z s e ks runs room. alone s e (ins.Int z) [] (Some kind.Int) ks runs
        (plain (ins.Int z) [] (Some kind.Int) refl refl refl refl refl refl refl) room;
    truth = λ b s e ks runs room. alone s e (ins.Bool (bit b)) [] (Some kind.Bool) ks runs
        (plain (ins.Bool (bit b)) [] (Some kind.Bool) refl refl refl refl refl refl refl) room;
    null = λ s e ks runs room. alone s e ins.Null [] (Some kind.Reference) ks runs
        (plain ins.Null [] (Some kind.Reference) refl refl refl refl refl refl refl) room;
    read = λ q k s e ks has runs room. forms.moved_end i c s e (s + 1) ks (kind_of k ∷ ks) runs.1
        (forms.loads i c s q (kind_of k) ks runs.0 (local_is q k has) room);
    invert = λ s e ks runs room. alone s e ins.Not (kind.Bool ∷ []) (Some kind.Bool) ks runs inverts room;
    negate = λ s e ks runs room. alone s e ins.Neg (kind.Int ∷ []) (Some kind.Int) ks runs
        (plain ins.Neg (kind.Int ∷ []) (Some kind.Int) refl refl refl refl refl refl refl) room;
    operate = operate;
    decide = decide;
    get = λ f j k s e ks sel runs room.
        alone s e (ins.Get j) (kind.Reference ∷ []) (Some (kind_of k)) ks runs (gets f j k sel) room;
    put = λ f j k s e ks sel runs room.
        alone s e (ins.Put j) (kind_of k ∷ (kind.Reference ∷ [])) None ks runs (puts f j k sel) room;
    arguments_had = had;
    call = call;
    super = super;
    bare_super = bare_super;
    view = view;
    make = make;
    make_bare = make_bare;
    bind = bind;
    assign = assign;
    print_number = λ s e runs. alone s e ins.Printi (kind.Int ∷ []) None [] runs
        (plain ins.Printi (kind.Int ∷ []) None refl refl refl refl refl refl refl) (omega arith);
    print_truth = λ s e runs. alone s e ins.Printb (kind.Bool ∷ []) None [] runs
        (plain ins.Printb (kind.Bool ∷ []) None refl refl refl refl refl refl refl) (omega arith);
    print_text = λ k s e low runs. alone s e (ins.Printt k) [] None [] runs
        (plain (ins.Printt k) [] None refl refl (lt-ltb k (length i.texts) low) refl refl refl refl) (omega arith);
    return_value = return_value;
    return_none = return_none;
  }

pub nodes_span : NodesSpan
nodes_span p i n c rows = nodes p i n c rows
