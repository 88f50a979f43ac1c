-- What a code is that is made of what was emitted.
use Rattle.std.proofs.Common.{◌≡◌, ◌≤◌, ◌<◌, ◌+◌, ℕ, suc, List, ◌∷◌, ◌++◌, length, drop, get_or, All, Option, Some, None, sym, ap, ◌∙◌, subst, arith, add-one, length-append}
use Rattle.std.specs.List.{AllByRecursion}
use Rattle.std.proofs.Math.Seq.{drop-cons, take-append_seam, drop-append_seam}
use Rattle.std.proofs.lemmas.List.{drop_all, length-take-le}
use Rattle.std.proofs.lemmas.List.Elements.{All-append, All-take, All-drop, All-from_recursion}
use Rattle.jn_base.specs.declared.tree.Method.{Method}
use Rattle.jn_base.specs.declared.tree.TypeTerm.{TypeTerm}
use Rattle.jn_base.specs.declared.tree.TypeTerm.TheVariants as type
use Rattle.jn_code.specs.declared.instr.Instr.{Instr}
use Rattle.jn_code.specs.declared.image.Code.{Code}
use Rattle.jn_code.specs.Form.{IsKind, InstrInForm}
use Rattle.jn_sem.specs.Acts.{path_behind}
use Rattle.jn_lower.specs.declared.emitter.Emitter.{Emitter}
use Rattle.jn_lower.specs.Written.{written_kind, written_result}
use Rattle.jn_lower.specs.Formed.{IsFormed}
use Rattle.jn_lower.specs.Walks.{IsAbove, CodeMade}

-- ---- each of a list, one after the other

pub each_on : {X : Type 0} (P : X → Type 0) (xs : List X) (i : ℕ) (e : X)
    → (AllByRecursion P (drop i xs) → AllByRecursion P xs) → i < length xs → P (get_or xs i e)
    → AllByRecursion P (drop (i + 1) xs) → AllByRecursion P xs
each_on P xs i e so lt p more =
    so (subst (AllByRecursion P)
    (sym (drop-cons xs i e lt ∙ ap (λ (n : ℕ). get_or xs i e ∷ drop n xs) (sym (add-one i)))) (p, more))

pub each_over : {X : Type 0} (P : X → Type 0) (xs : List X) (i : ℕ)
    → (AllByRecursion P (drop i xs) → AllByRecursion P xs) → length xs ≤ i → All P xs
each_over P xs i so le = All-from_recursion P xs (so (subst (AllByRecursion P) (sym (drop_all i xs le)) tt))

all_front : {X : Type 0} (P : X → Type 0) (xs ys : List X) → All P (xs ++ ys) → All P xs
all_front P xs ys a = subst (All P) (take-append_seam xs ys) (All-take P (length xs) (xs ++ ys) a)

all_back : {X : Type 0} (P : X → Type 0) (xs ys : List X) → All P (xs ++ ys) → All P ys
all_back P xs ys a = subst (All P) (drop-append_seam xs ys) (All-drop P (length xs) (xs ++ ys) a)

-- ---- the code

kind_of_written : (t : TypeTerm) → written_kind t ≤ 3
kind_of_written type.Int = omega arith
kind_of_written type.Bool = omega arith
kind_of_written (type.Class ts ms) = omega arith

result_of_written : (t : Option TypeTerm) → written_result t ≤ 3
result_of_written None = omega arith
result_of_written (Some t) = kind_of_written t

pub code_formed : (m : Method) (x : Emitter) (count above kind : ℕ) (code : Code) → CodeMade x count above kind code
    → count ≡ suc (length m.params) → IsAbove m above → kind ≡ written_result m.result → IsFormed m code
code_formed m x count above kind code made many numbered result =
    let f = made.formed in
    let l = f.locals in
    let params : length code.params ≡ count = ap length made.is.params ∙ length-take-le count x.locals.kinds l.within in
    let both : length code.params + length code.locals ≡ length x.locals.kinds + length x.locals.spare =
    sym (length-append code.params code.locals) ∙ ap length made.is.locals ∙ length-append x.locals.kinds x.locals.spare in
    let kinds : All IsKind (code.params ++ code.locals) =
    subst (λ (ks : List ℕ). All IsKind ks) (sym made.is.locals) (All-append IsKind x.locals.kinds x.locals.spare l.kinds l.spare_kinds) in
    let behind : path_behind m.body (length code.params) ≡ above =
    ap (path_behind m.body) (params ∙ many) ∙ sym numbered in
    let few = l.few in
    let all = l.many in
    let spare = l.spare_few in
    let top = l.above_all in
    let stack = made.is.stack_is in
    record {
      room = omega (arith, stack);
      in_form = record {
        params_count = omega (arith, params, few);
        params = all_front IsKind code.params code.locals kinds;
        result = subst (λ (k : ℕ). k ≤ 3) (sym (made.is.result ∙ result)) (result_of_written m.result);
        locals_count = omega (arith, both, all);
        locals = all_back IsKind code.params code.locals kinds;
        stack = omega (arith, stack);
        count = subst (λ (xs : List Instr). length xs < 4294967296) (sym made.is.instrs) f.instrs.many;
        instrs = subst (λ (xs : List Instr). All InstrInForm xs) (sym made.is.instrs) f.instrs.each;
      };
      locals = omega (arith, both, behind, spare, top);
    }
