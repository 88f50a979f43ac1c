-- The codes of an image: those of the bodies, and the start's.
use Rattle.std.proofs.Common.{◌≡◌, ℕ, zero, suc, ◌+◌, ◌<◌, ◌≤◌, List, [], ◌∷◌, ◌++◌, length, Some, None, Bool, true, false, not, ◌&&◌, ◌⊎◌, inl, inr, refl, sym, ap, ◌∙◌, subst, arith}
use Rattle.std.specs.Prelude.{slice_get, nat_eq, nat_lt, is_some, All, if◌then◌else◌}
use Rattle.std.proofs.lemmas.Bool.{ltb-true, ltb-false}
use Rattle.std.proofs.lemmas.Option.{slice_get_within, slice_get-map, get_or_from_slice_get}
use Rattle.std.proofs.lemmas.List.Elements.{All-get_or}
use Rattle.std.specs.Option.{option_map}
use Rattle.jn_reach.proofs.Eachs.{Each-length}
use Rattle.jn_base.specs.declared.tree.Program.{Program}
use Rattle.jn_base.specs.declared.types.Anchor.TheVariants.{Root, Up}
use Rattle.jn_base.specs.Atoms.{Atom}
use Rattle.jn_code.specs.declared.kind.OperandKind.{OperandKind}
use Rattle.jn_code.specs.declared.kind.OperandKind.TheVariants as kind
use Rattle.jn_code.specs.declared.instr.Instr.{Instr}
use Rattle.jn_code.specs.declared.instr.Instr.TheVariants as ins
use Rattle.jn_code.specs.declared.image.Image.{Image}
use Rattle.jn_code.specs.declared.image.Code.{Code}
use Rattle.jn_code.specs.declared.image.Shape.{Shape}
use Rattle.jn_code.specs.Kinds.{result_kind}
use Rattle.jn_code.specs.Form.{ShapeInForm}
use Rattle.jn_code.specs.declared.fault.CodeWhy.TheVariants as why
use Rattle.jn_code.specs.declared.fault.ImageFault.TheVariants as fault
use Rattle.jn_code.specs.Valid.{Pass, code_fault, codes_fault, start_fault, starts_well}
use Rattle.jn_sem.specs.Does.{Body}
use Rattle.jn_laws.specs.LawsOfWritten.{Shallow}
use Rattle.jn_agree.specs.declared.selectors.MethodSel.{MethodSel}
use Rattle.jn_agree.specs.Naming.{Naming}
use Rattle.jn_agree.specs.Rows.{RowsAre}
use Rattle.jn_agree.specs.Spans.{Spans}
use Rattle.jn_agree.specs.Places.{Run, dropping, last_return, ClassCode, fixed, CtorCode, ctor, bare, StartAt}
use Rattle.jn_span_laws.specs.LawsOfSpans.{Passes}
use Rattle.jn_span_laws.specs.LawsOfForms.{AnchorRefers}
use Rattle.jn_span_laws.proofs.Spanned.{joined}
use Rattle.jn_span_laws.proofs.Forms as forms
use Rattle.jn_span_laws.proofs.Bodies.{body}
use Rattle.jn_size_laws.specs.LawsOfOperands.{FewParams}
use Rattle.jn_size_laws.proofs.Limits.{files_within}
use Rattle.jn_place_spans.specs.LawsOfNodes.{NodesOf, arguments}
use Rattle.jn_place_spans.specs.LawsOfImages.{CodesStand, CodesValid, OperandsFew, FilesStand}
use Rattle.jn_place_spans.proofs.Nodes.{nodes, no_arguments}
use Rattle.jn_place_spans.proofs.Bodies.{bodies_pass}
use Rattle.jn_place_spans.proofs.UntypedStmts.{bodies_stand}
use Rattle.jn_place_spans.proofs.FewOperands.{sources_hold_few}

-- ---- the start's code

module _ (p : Program) (i : Image) (n : Naming) (rows : RowsAre p i n) (c : Code) (at : StartAt p n c)
    (room : 1 ≤ c.stack)
  where
    its : NodesOf p i n c
    its = nodes p i n c rows

    main : Atom
    main = record { anchor = Root; exact = []; names = at.class ∷ [] }

    many : length n.classes ≤ length i.classes
    many = let l = Each-length _ rows.rows in omega (arith, l)

    no_path : AnchorRefers c main
    unfolding main
    no_path q k e = absurd (no e) where
      no : Root ≡ Up q k → ⊥
      no e = cc

    class_code : ClassCode n main (ins.Cls at.number ∷ [])
    unfolding main
    class_code = fixed at.number refl at.at_class refl

    -- an object of Main is made
    made : (xs : List Instr) (e : ℕ) → CtorCode n main 0 xs → Run c.instrs (ins.Cls at.number ∷ (ins.New ∷ xs)) 0 e
        → Spans i c 0 e [] (kind.Reference ∷ [])
    made xs e (ctor C P j shape names sel count void is) runs =
        subst (λ (ws : List OperandKind). Spans i c 0 e (ws ++ []) (kind.Reference ∷ [])) none
        (its.make main C j shape (ins.Cls at.number ∷ []) true 0 e [] many no_path class_code sel
        (subst (λ (ys : List Instr). Run c.instrs (ins.Cls at.number ∷ (ins.New ∷ ys)) 0 e) is runs)
        (subst (λ (ws : List OperandKind). suc (length (ws ++ [])) ≤ c.stack) (sym none) room) room)
      where
        none : arguments shape ≡ []
        none = no_arguments shape.params count
    made xs e (bare zero_args no_one is) runs =
        its.make_bare main (ins.Cls at.number ∷ []) true 0 e [] many no_path class_code
        (subst (λ (ys : List Instr). Run c.instrs (ins.Cls at.number ∷ (ins.New ∷ ys)) 0 e) is runs) room

    -- `main` is called on it
    called : (s e : ℕ) → Run c.instrs (ins.Call at.selector ∷ dropping false at.shape.result) s e
        → Spans i c s e (kind.Reference ∷ []) []
    called s e runs =
        subst (λ (ws : List OperandKind). Spans i c s e (ws ++ (kind.Reference ∷ [])) [])
        (no_arguments at.shape.params (ap (λ (ks : List ℕ). length ks) at.no_params))
        (its.call at.method at.selector at.shape false s e [] at.is_selector runs room)

    start_passes : Passes i c
    unfolding main
    start_passes =
        let one = forms.split_end i c (ins.Cls at.number ∷ (ins.New ∷ at.constructor))
        (ins.Call at.selector ∷ (dropping false at.shape.result ++ (ins.Ret ∷ []))) 0 (length c.instrs) at.instrs in
        let two = forms.split_end i c (ins.Call at.selector ∷ dropping false at.shape.result) (ins.Ret ∷ []) one.0
        (length c.instrs) one.2 in
        body i c [] 0 two.0 (λ x a. elim a [ ]) refl
        (joined i c 0 one.0 two.0 [] (kind.Reference ∷ []) [] (made at.constructor one.0 at.is_constructor one.1)
        (called one.0 two.0 two.1))
        (subst (λ (k : ℕ). Run c.instrs (last_return k) two.0 (length c.instrs)) (sym at.result) two.2) room

-- ---- all codes

there : {A : Type 0} (xs : List A) (j : ℕ) → j < length xs → (x : A) × (slice_get xs j ≡ Some x)
there [] j l = absurd (omega (arith, l))
there (x ∷ xs) zero l = (x, refl)
there (x ∷ xs) (suc j) l = there xs j (omega (arith, l))

each_passes : (p : Program) → Shallow p → (i : Image) (n : Naming) → RowsAre p i n → CodesStand p i n
    → (j : ℕ) (c : Code)
    → slice_get i.codes j ≡ Some c → Passes i c
each_passes p deep i n rows stand j c e = at (split j (length n.bodies) (let l = slice_get_within i.codes j c e in
    let all = rows.codes.all in omega (arith, l, all)))
  where
    split : (a b : ℕ) → a < suc b → (a < b) ⊎ (a ≡ b)
    split a b l = by (nat_lt a b) refl where
      by : (t : Bool) → nat_lt a b ≡ t → (a < b) ⊎ (a ≡ b)
      by true e = inl (ltb-true a b e)
      by false e = inr (let k : b ≤ a = ltb-false a b e in omega (arith, k, l))

    at : (j < length n.bodies) ⊎ (j ≡ length n.bodies) → Passes i c
    at (inl l) =
        let b = there n.bodies j l in
        let s = stand.bodies j b.0 c b.1 e in
        bodies_pass p deep i n rows b.0 s.0.header c s.0.head s.0.accepted s.0.formed s.0.at s.1
    at (inr same) =
        let s = stand.start c (ap (λ (k : ℕ). slice_get i.codes k) (rows.codes.start ∙ sym same) ∙ e) in
        start_passes p i n rows c s.0 s.1

codes_none : (i : Image) (k : ℕ) (cs : List Code) → ((j : ℕ) (c : Code) → slice_get cs j ≡ Some c → Passes i c)
    → start_fault i ≡ None → codes_fault i k cs ≡ None
codes_none i k [] each start = start
codes_none i k (c ∷ cs) each start =
    ap (λ (x : Pass). code_fault x k (codes_fault i (k + 1) cs)) (each zero c refl).1
    ∙ codes_none i (k + 1) cs (λ j d e. each (suc j) d e) start

starts : (i : Image) (c : Code) → slice_get i.codes i.start ≡ Some c → c.params ≡ [] → c.result ≡ 0
    → start_fault i ≡ None
starts i c e params result =
    ap (λ (b : Bool). if b then None else Some (fault.BadCode i.start 0 why.Start))
    (ap starts_well e ∙ ap (λ (ks : List ℕ). nat_eq (length ks) 0 && not (is_some (result_kind c.result))) params
    ∙ ap (λ (k : ℕ). not (is_some (result_kind k))) result)

pub codes_valid : CodesValid
codes_valid p deep i n rows stand =
    let last = there i.codes i.start (let all = rows.codes.all in let s = rows.codes.start in omega (arith, all, s)) in
    let s = stand.start last.0 last.1 in
    codes_none i 0 i.codes (each_passes p deep i n rows stand) (starts i last.0 last.1 s.0.params s.0.result)

-- ---- how many operands

few_params : (p : Program) (i : Image) (n : Naming) → RowsAre p i n → All ShapeInForm i.methods → FewParams n
few_params p i n rows all s x e =
    let at = ap (λ (ks : List Shape). slice_get ks s) (sym rows.shapes)
    ∙ slice_get-map (λ (z : MethodSel). z.shape) n.methods s ∙ ap (option_map (λ (z : MethodSel). z.shape)) e in
    (subst ShapeInForm (get_or_from_slice_get i.methods s x.shape x.shape at)
    (All-get_or ShapeInForm i.methods s x.shape (slice_get_within i.methods s x.shape at) all)).count

pub operands_few : OperandsFew
operands_few p bytes text deep i n rows shapes j b c e stands few =
    sources_hold_few p bytes text j b (ap (λ (bs : List Body). slice_get bs j) (sym rows.codes.bodies) ∙ e)
    ((bodies_stand p deep n b stands.header c stands.head stands.accepted stands.at few).arguments
    (few_params p i n rows shapes))

-- ---- the file

pub files_stand : FilesStand
files_stand p bytes spelled short deep i n rows form stand rest =
    files_within p bytes i n spelled short rows form (record {
      codes = λ j b c e f.
          let s = stand.bodies j b c e f in
          (bodies_stand p deep n b s.0.header c s.0.head s.0.accepted s.0.at s.1.few).sized (rest.locals j b c e f);
      start = λ c e. (stand.start c e).0;
      methods = rest.methods;
      fields = rest.fields;
      groups = rest.groups;
    }) rest.entries
