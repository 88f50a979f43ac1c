-- A worked program: a class with a field, a method and a package in it.
use Rattle.std.specs.Prelude.{[], ◌∷◌, None, false}
use Rattle.jn_base.specs.declared.tree.Kind.TheVariants as kind
use Rattle.jn_base.specs.declared.tree.Head.TheVariants as head
use Rattle.jn_base.specs.declared.tree.TypeTerm.TheVariants as type_term
use Rattle.jn_base.specs.declared.tree.Member.TheVariants as member
use Rattle.jn_base.specs.declared.word.Keyword.TheVariants.{Class, Int, Package, Void}
use Rattle.jn_base.specs.declared.word.Mark.TheVariants.{CloseBrace, CloseParen, OpenBrace, OpenParen, Semicolon}
use Rattle.jn_base.specs.declared.word.Word.TheVariants as word
use Rattle.jn_base.specs.Parts.{Declares, Parameter, Atom, part, key, mark, name, opening, new_name, end_of_file, named, term}
use Rattle.jn_base.specs.GrammarTypes.{int, class, last_atom, no_mask}
use Rattle.jn_base.specs.GrammarStmt.{not_final, no_stmt}
use Rattle.jn_base.specs.GrammarDecl.{param, no_more_param, params, no_sharing, no_result, no_list, a_class, a_package, decl, inner, declared, slot, method, no_member, then_member, top, IsProgram, no_top, then_top}
use Rattle.jn_base.proofs.ExampleWords.{called, at, by_name}

-- class A { int f; void m(B b) { } package P { } } and the end, with the names A 0, f 1, m 2, B 3, b 4, P 5
pub program : IsProgram
    (key Class (at 1) ∷ new_name (Declares 1) (called 0) (at 7) ∷ opening 0 OpenBrace (at 9) ∷ key Int (at 11) ∷ name (called 1) (at 15) ∷ mark Semicolon (at 16)
    ∷ key Void (at 18) ∷ name (called 2) (at 23) ∷ opening 1 OpenParen (at 24) ∷ part (word.Name (called 3)) (at 25) (Atom 1) ∷ new_name (Parameter 1) (called 4) (at 27)
    ∷ mark CloseParen (at 28) ∷ opening 1 OpenBrace (at 30) ∷ mark CloseBrace (at 32) ∷ key Package (at 34) ∷ new_name (Declares 2) (called 5) (at 42)
    ∷ opening 1 OpenBrace (at 44) ∷ mark CloseBrace (at 46) ∷ mark CloseBrace (at 48) ∷ end_of_file (at 49) ∷ [])
    (decl kind.Class (named (called 0) (at 7)) [] [] []
    (member.Slot (record { ty = type_term.Int; name = named (called 1) (at 15) })
    ∷ member.Body (record {
      result = None;
      name = named (called 2) (at 23);
      params = record { fixed = false; ty = type_term.Class (term head.Plain [] (called 3 ∷ []) (at 25) ∷ []) []; name = named (called 4) (at 27) } ∷ [];
      sharing = [];
      body = [];
    })
    ∷ member.Inner (decl kind.Package (named (called 5) (at 42)) [] [] [] [])
    ∷ []) ∷ [])
program = then_top
    (top {x = called 0} {p = at 7} (at 9) (at 48) (a_class {p = at 1}) no_list no_list
    (then_member (slot {n = 2} {x = called 1} (at 15) (at 16) (int {d = 1} {p = at 11}))
    (then_member (method {n = 2} {x = called 2} (at 23) (at 24) (at 28) (at 30) (at 32) (no_result {d = 1} {p = at 18})
    (params (param {x = called 4} (at 27) not_final (class (last_atom (by_name 2 3 25)) no_mask)) no_more_param) no_sharing no_stmt)
    (then_member (declared (inner {d = 1} {n = 2} {x = called 5} {p = at 42} (at 44) (at 46) (a_package {p = at 34}) no_list no_list no_member)) no_member))))
    (no_top {p = at 49})
