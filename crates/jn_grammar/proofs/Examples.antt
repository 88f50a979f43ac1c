-- Worked rows: sources that are read, sources that are refused at their word, and each limit at its edge and one past it.
use Rattle.std.proofs.Common.{◌≡◌, ℕ, zero, suc, true, false, List, [], ◌∷◌, ◌++◌, Option, Some, None, Ok, Err, refl}
use Rattle.std.specs.Prelude.{pos}
use Rattle.jn_base.specs.declared.tree.Kind.TheVariants as kind
use Rattle.jn_base.specs.declared.tree.Suffix.{the_lemmas}
use Rattle.jn_base.specs.declared.refusal.Limit.TheVariants as limit
use Rattle.jn_base.specs.declared.word.Keyword.{Keyword}
use Rattle.jn_base.specs.declared.word.Keyword.TheVariants.{Adapts, Class, Else, Final, If, Int, New, Null, Print, Return, Sharing, This, True, Void, While}
use Rattle.jn_base.specs.declared.word.Mark.{Mark}
use Rattle.jn_base.specs.declared.word.Mark.TheVariants as m
use Rattle.jn_base.specs.declared.word.Word.TheVariants as word
use Rattle.jn_base.specs.declared.word.Lexeme.{Lexeme}
use Rattle.jn_base.specs.Words.{lexeme}
use Rattle.jn_grammar.specs.declared.fault.Fault.{Fault}
use Rattle.jn_grammar.specs.declared.fault.Fault.TheVariants.{Syntax, Passed}
use Rattle.jn_grammar.specs.Begins.{nowhere}
use Rattle.jn_grammar.specs.ReadTypes.{dot_in, bang_in, names_in, tail_in, ref_in, class_in, own_in, prefix_in, after_names_in, name_or_class_in, after_name_in, term_by, term_in, mask_in, view_in, atom_in, next_atom_in, atoms_in, class_type_in, type_in}
use Rattle.jn_grammar.specs.ReadExprs.{link_in, chain_in, pair_in, shut_args_in, call_args_in, new_in, super_call_in, super_in, parens_in, prim_by, prim_in, call_in, suffix_in, post_in, viewed_in, inverse_in, negative_in, unary_in, product_in, sum_in, comparison_in, equality_in, conjunction_in, expr_in, arg_in, args_in, level}
use Rattle.jn_grammar.specs.ReadStmts.{stmts_in, new_name_in, counting, value_in, tested_in, test_in, return_in, printed_by, printed_in, print_open_in, print_in, local_end_in, local_in, type_rest_in, path_local_in, assign_in, set_in, simple_by, simple_in, led_in, block_in, else_in, if_in, while_in, block_stmt_in, stmt_by, stmt_in, stmts_of}
use Rattle.jn_grammar.specs.ReadDecls.{param_in, next_param_in, params_in, params_of, rel_in, next_rel_in, sharing_in, next_name_in, listed_in, list_in, method_in, void_in, typed_end_in, typed_in, body_in, inner_in, top_decl_in, inner_member_in, member_by, member_in, members_of, top_by, top_in, tops_in}
use Rattle.jn_grammar.specs.ReadWhole.{program_in, whole_in}
use Rattle.jn_grammar.specs.Answers.{Answer, many}
use Rattle.jn_grammar.specs.TokenLimits.{shows}

abbrev n : ℕ → Lexeme
n i = lexeme (word.Name (record { 0 = i })) nowhere

abbrev k : Keyword → Lexeme
k w = lexeme (word.Keyword w) nowhere

abbrev o : Mark → Lexeme
o w = lexeme (word.Mark w) nowhere

abbrev i : ℕ → Lexeme
i v = lexeme (word.Number (pos v)) nowhere

abbrev end : List Lexeme
end = lexeme word.End nowhere ∷ []

abbrev fault : {A : Type 0} → Answer A → Option Fault
fault (Ok x) = None
fault (Err f) = Some f

-- the numbers below this one
abbrev below : ℕ → List ℕ
below zero = []
below (suc i) = i ∷ below i

-- so many further terms of a type
abbrev atoms : ℕ → List Lexeme
atoms zero = []
atoms (suc i) = o m.Ampersand ∷ n 0 ∷ atoms i

-- n1.n2!n3 & this.class.n1 \ n4 n5 ;
abbrev slot : List Lexeme
slot = n 1 ∷ o m.Dot ∷ n 2 ∷ o m.Bang ∷ o m.Dot ∷ n 3 ∷ o m.Ampersand ∷ k This ∷ o m.Dot ∷ k Class ∷ o m.Dot ∷ n 1 ∷ o m.Backslash ∷ n 4 ∷ n 5 ∷ o m.Semicolon ∷ []

-- void n6 ( final int n7 , n1 n8 ) sharing n1 -> n2 , n3 -> n4 {
abbrev header : List Lexeme
header = k Void ∷ n 6 ∷ o m.OpenParen ∷ k Final ∷ k Int ∷ n 7 ∷ o m.Comma ∷ n 1 ∷ n 8 ∷ o m.CloseParen ∷ k Sharing ∷ n 1 ∷ o m.Arrow ∷ n 2 ∷ o m.Comma ∷ n 3 ∷ o m.Arrow ∷ n 4 ∷ o m.OpenBrace ∷ []

-- n1 & n3 n9 = new n1 ( ) ; n1 [ n7.class ].n2 n10 = n9 ; n7.class n11 = null ; n9 = n10 ; new n1 ( ) ; { } n1 ! n2 n3 = 1 ;
abbrev body : List Lexeme
body =
    n 1 ∷ o m.Ampersand ∷ n 3 ∷ n 9 ∷ o m.Equals ∷ k New ∷ n 1 ∷ o m.OpenParen ∷ o m.CloseParen ∷ o m.Semicolon
    ∷ n 1 ∷ o m.OpenBracket ∷ n 7 ∷ o m.Dot ∷ k Class ∷ o m.CloseBracket ∷ o m.Dot ∷ n 2 ∷ n 10 ∷ o m.Equals ∷ n 9 ∷ o m.Semicolon
    ∷ n 7 ∷ o m.Dot ∷ k Class ∷ n 11 ∷ o m.Equals ∷ k Null ∷ o m.Semicolon
    ∷ n 9 ∷ o m.Equals ∷ n 10 ∷ o m.Semicolon
    ∷ k New ∷ n 1 ∷ o m.OpenParen ∷ o m.CloseParen ∷ o m.Semicolon
    ∷ o m.OpenBrace ∷ o m.CloseBrace
    ∷ n 1 ∷ o m.Bang ∷ o m.Dot ∷ n 2 ∷ n 3 ∷ o m.Equals ∷ i 1 ∷ o m.Semicolon ∷ []

-- if ( n7 < 1 ) { final int n12 = 1 ; } else { while ( true ) { return ; } } print ( "" ) ; print ( this.n9 ) ; return n7 ;
abbrev control : List Lexeme
control =
    k If ∷ o m.OpenParen ∷ n 7 ∷ o m.Less ∷ i 1 ∷ o m.CloseParen ∷ o m.OpenBrace ∷ k Final ∷ k Int ∷ n 12 ∷ o m.Equals ∷ i 1 ∷ o m.Semicolon ∷ o m.CloseBrace
    ∷ k Else ∷ o m.OpenBrace ∷ k While ∷ o m.OpenParen ∷ k True ∷ o m.CloseParen ∷ o m.OpenBrace ∷ k Return ∷ o m.Semicolon ∷ o m.CloseBrace ∷ o m.CloseBrace
    ∷ k Print ∷ o m.OpenParen ∷ lexeme (word.Text 0) nowhere ∷ o m.CloseParen ∷ o m.Semicolon
    ∷ k Print ∷ o m.OpenParen ∷ k This ∷ o m.Dot ∷ n 9 ∷ o m.CloseParen ∷ o m.Semicolon
    ∷ k Return ∷ n 7 ∷ o m.Semicolon ∷ []

-- class n20 adapts n0 { }
top : fault (program_in (k Class ∷ n 20 ∷ k Adapts ∷ n 0 ∷ o m.OpenBrace ∷ o m.CloseBrace ∷ end)) ≡ None
unfolding dot_in bang_in names_in tail_in ref_in class_in own_in prefix_in after_names_in name_or_class_in after_name_in term_by term_in mask_in view_in atom_in next_atom_in atoms_in class_type_in type_in link_in chain_in pair_in shut_args_in call_args_in new_in super_call_in super_in parens_in prim_by prim_in call_in suffix_in post_in viewed_in inverse_in negative_in unary_in product_in sum_in comparison_in equality_in conjunction_in expr_in arg_in args_in level new_name_in counting value_in tested_in test_in return_in printed_by printed_in print_open_in print_in local_end_in local_in type_rest_in path_local_in assign_in set_in simple_by simple_in led_in block_in else_in if_in while_in block_stmt_in stmt_by stmt_in stmts_of param_in next_param_in params_in params_of rel_in next_rel_in sharing_in next_name_in listed_in list_in method_in void_in typed_end_in typed_in body_in inner_in top_decl_in inner_member_in member_by member_in members_of top_by top_in tops_in whole_in many
top = refl

-- nothing but the end
empty : fault (program_in end) ≡ None
unfolding dot_in bang_in names_in tail_in ref_in class_in own_in prefix_in after_names_in name_or_class_in after_name_in term_by term_in mask_in view_in atom_in next_atom_in atoms_in class_type_in type_in link_in chain_in pair_in shut_args_in call_args_in new_in super_call_in super_in parens_in prim_by prim_in call_in suffix_in post_in viewed_in inverse_in negative_in unary_in product_in sum_in comparison_in equality_in conjunction_in expr_in arg_in args_in level new_name_in counting value_in tested_in test_in return_in printed_by printed_in print_open_in print_in local_end_in local_in type_rest_in path_local_in assign_in set_in simple_by simple_in led_in block_in else_in if_in while_in block_stmt_in stmt_by stmt_in stmts_of param_in next_param_in params_in params_of rel_in next_rel_in sharing_in next_name_in listed_in list_in method_in void_in typed_end_in typed_in body_in inner_in top_decl_in inner_member_in member_by member_in members_of top_by top_in tops_in whole_in many
empty = refl

-- no end
no_end : fault (program_in (k Class ∷ n 20 ∷ o m.OpenBrace ∷ end)) ≡ Some (Syntax 1)
unfolding dot_in bang_in names_in tail_in ref_in class_in own_in prefix_in after_names_in name_or_class_in after_name_in term_by term_in mask_in view_in atom_in next_atom_in atoms_in class_type_in type_in link_in chain_in pair_in shut_args_in call_args_in new_in super_call_in super_in parens_in prim_by prim_in call_in suffix_in post_in viewed_in inverse_in negative_in unary_in product_in sum_in comparison_in equality_in conjunction_in expr_in arg_in args_in level new_name_in counting value_in tested_in test_in return_in printed_by printed_in print_open_in print_in local_end_in local_in type_rest_in path_local_in assign_in set_in simple_by simple_in led_in block_in else_in if_in while_in block_stmt_in stmt_by stmt_in stmts_of param_in next_param_in params_in params_of rel_in next_rel_in sharing_in next_name_in listed_in list_in method_in void_in typed_end_in typed_in body_in inner_in top_decl_in inner_member_in member_by member_in members_of top_by top_in tops_in whole_in many
no_end = refl

slot_read : fault (member_in true 5 (members_of true 5) kind.Class 2 1 slot) ≡ None
unfolding dot_in bang_in names_in tail_in ref_in class_in own_in prefix_in after_names_in name_or_class_in after_name_in term_by term_in mask_in view_in atom_in next_atom_in atoms_in class_type_in type_in link_in chain_in pair_in shut_args_in call_args_in new_in super_call_in super_in parens_in prim_by prim_in call_in suffix_in post_in viewed_in inverse_in negative_in unary_in product_in sum_in comparison_in equality_in conjunction_in expr_in arg_in args_in level new_name_in counting value_in tested_in test_in return_in printed_by printed_in print_open_in print_in local_end_in local_in type_rest_in path_local_in assign_in set_in simple_by simple_in led_in block_in else_in if_in while_in block_stmt_in stmt_by stmt_in stmts_of param_in next_param_in params_in params_of rel_in next_rel_in sharing_in next_name_in listed_in list_in method_in void_in typed_end_in typed_in body_in inner_in top_decl_in inner_member_in member_by member_in members_of top_by top_in tops_in whole_in many
slot_read = refl

-- in a package no field stands
no_slot : fault (member_in true 5 (members_of true 5) kind.Package 2 1 slot) ≡ Some (Syntax 16)
unfolding dot_in bang_in names_in tail_in ref_in class_in own_in prefix_in after_names_in name_or_class_in after_name_in term_by term_in mask_in view_in atom_in next_atom_in atoms_in class_type_in type_in link_in chain_in pair_in shut_args_in call_args_in new_in super_call_in super_in parens_in prim_by prim_in call_in suffix_in post_in viewed_in inverse_in negative_in unary_in product_in sum_in comparison_in equality_in conjunction_in expr_in arg_in args_in level new_name_in counting value_in tested_in test_in return_in printed_by printed_in print_open_in print_in local_end_in local_in type_rest_in path_local_in assign_in set_in simple_by simple_in led_in block_in else_in if_in while_in block_stmt_in stmt_by stmt_in stmts_of param_in next_param_in params_in params_of rel_in next_rel_in sharing_in next_name_in listed_in list_in method_in void_in typed_end_in typed_in body_in inner_in top_decl_in inner_member_in member_by member_in members_of top_by top_in tops_in whole_in many
no_slot = refl

method_read : fault (member_in true 5 (members_of true 5) kind.Class 2 1 (header ++ (o m.CloseBrace ∷ []))) ≡ None
unfolding dot_in bang_in names_in tail_in ref_in class_in own_in prefix_in after_names_in name_or_class_in after_name_in term_by term_in mask_in view_in atom_in next_atom_in atoms_in class_type_in type_in link_in chain_in pair_in shut_args_in call_args_in new_in super_call_in super_in parens_in prim_by prim_in call_in suffix_in post_in viewed_in inverse_in negative_in unary_in product_in sum_in comparison_in equality_in conjunction_in expr_in arg_in args_in level new_name_in counting value_in tested_in test_in return_in printed_by printed_in print_open_in print_in local_end_in local_in type_rest_in path_local_in assign_in set_in simple_by simple_in led_in block_in else_in if_in while_in block_stmt_in stmt_by stmt_in stmts_of param_in next_param_in params_in params_of rel_in next_rel_in sharing_in next_name_in listed_in list_in method_in void_in typed_end_in typed_in body_in inner_in top_decl_in inner_member_in member_by member_in members_of top_by top_in tops_in whole_in many
method_read = refl

body_read : fault (stmts_in true 5 (stmts_of true 5) 0 (body ++ (o m.CloseBrace ∷ []))) ≡ None
unfolding dot_in bang_in names_in tail_in ref_in class_in own_in prefix_in after_names_in name_or_class_in after_name_in term_by term_in mask_in view_in atom_in next_atom_in atoms_in class_type_in type_in link_in chain_in pair_in shut_args_in call_args_in new_in super_call_in super_in parens_in prim_by prim_in call_in suffix_in post_in viewed_in inverse_in negative_in unary_in product_in sum_in comparison_in equality_in conjunction_in expr_in arg_in args_in level new_name_in counting value_in tested_in test_in return_in printed_by printed_in print_open_in print_in local_end_in local_in type_rest_in path_local_in assign_in set_in simple_by simple_in led_in block_in else_in if_in while_in block_stmt_in stmt_by stmt_in stmts_of param_in next_param_in params_in params_of rel_in next_rel_in sharing_in next_name_in listed_in list_in method_in void_in typed_end_in typed_in body_in inner_in top_decl_in inner_member_in member_by member_in members_of top_by top_in tops_in whole_in many
body_read = refl

control_read : fault (stmts_in true 5 (stmts_of true 5) 0 (control ++ (o m.CloseBrace ∷ []))) ≡ None
unfolding dot_in bang_in names_in tail_in ref_in class_in own_in prefix_in after_names_in name_or_class_in after_name_in term_by term_in mask_in view_in atom_in next_atom_in atoms_in class_type_in type_in link_in chain_in pair_in shut_args_in call_args_in new_in super_call_in super_in parens_in prim_by prim_in call_in suffix_in post_in viewed_in inverse_in negative_in unary_in product_in sum_in comparison_in equality_in conjunction_in expr_in arg_in args_in level new_name_in counting value_in tested_in test_in return_in printed_by printed_in print_open_in print_in local_end_in local_in type_rest_in path_local_in assign_in set_in simple_by simple_in led_in block_in else_in if_in while_in block_stmt_in stmt_by stmt_in stmts_of param_in next_param_in params_in params_of rel_in next_rel_in sharing_in next_name_in listed_in list_in method_in void_in typed_end_in typed_in body_in inner_in top_decl_in inner_member_in member_by member_in members_of top_by top_in tops_in whole_in many
control_read = refl

-- a name alone is no statement
no_call : fault (stmt_in true 5 (stmts_of true 5) 0 (n 1 ∷ o m.Semicolon ∷ [])) ≡ Some (Syntax 1)
unfolding dot_in bang_in names_in tail_in ref_in class_in own_in prefix_in after_names_in name_or_class_in after_name_in term_by term_in mask_in view_in atom_in next_atom_in atoms_in class_type_in type_in link_in chain_in pair_in shut_args_in call_args_in new_in super_call_in super_in parens_in prim_by prim_in call_in suffix_in post_in viewed_in inverse_in negative_in unary_in product_in sum_in comparison_in equality_in conjunction_in expr_in arg_in args_in level new_name_in counting value_in tested_in test_in return_in printed_by printed_in print_open_in print_in local_end_in local_in type_rest_in path_local_in assign_in set_in simple_by simple_in led_in block_in else_in if_in while_in block_stmt_in stmt_by stmt_in stmts_of param_in next_param_in params_in params_of rel_in next_rel_in sharing_in next_name_in listed_in list_in method_in void_in typed_end_in typed_in body_in inner_in top_decl_in inner_member_in member_by member_in members_of top_by top_in tops_in whole_in many
no_call = refl

-- nor is a form in parentheses a call
no_paren_call : fault (stmt_in true 5 (stmts_of true 5) 0 (o m.OpenParen ∷ k New ∷ n 1 ∷ o m.OpenParen ∷ o m.CloseParen ∷ o m.CloseParen ∷ o m.Semicolon ∷ [])) ≡ Some (Syntax 1)
unfolding dot_in bang_in names_in tail_in ref_in class_in own_in prefix_in after_names_in name_or_class_in after_name_in term_by term_in mask_in view_in atom_in next_atom_in atoms_in class_type_in type_in link_in chain_in pair_in shut_args_in call_args_in new_in super_call_in super_in parens_in prim_by prim_in call_in suffix_in post_in viewed_in inverse_in negative_in unary_in product_in sum_in comparison_in equality_in conjunction_in expr_in arg_in args_in level new_name_in counting value_in tested_in test_in return_in printed_by printed_in print_open_in print_in local_end_in local_in type_rest_in path_local_in assign_in set_in simple_by simple_in led_in block_in else_in if_in while_in block_stmt_in stmt_by stmt_in stmts_of param_in next_param_in params_in params_of rel_in next_rel_in sharing_in next_name_in listed_in list_in method_in void_in typed_end_in typed_in body_in inner_in top_decl_in inner_member_in member_by member_in members_of top_by top_in tops_in whole_in many
no_paren_call = refl

-- declarations nested: the 8th and the 9th
eight_deep : fault (inner_in true 5 (members_of true 5) kind.Class 8 (n 1 ∷ o m.OpenBrace ∷ o m.CloseBrace ∷ [])) ≡ None
unfolding dot_in bang_in names_in tail_in ref_in class_in own_in prefix_in after_names_in name_or_class_in after_name_in term_by term_in mask_in view_in atom_in next_atom_in atoms_in class_type_in type_in link_in chain_in pair_in shut_args_in call_args_in new_in super_call_in super_in parens_in prim_by prim_in call_in suffix_in post_in viewed_in inverse_in negative_in unary_in product_in sum_in comparison_in equality_in conjunction_in expr_in arg_in args_in level new_name_in counting value_in tested_in test_in return_in printed_by printed_in print_open_in print_in local_end_in local_in type_rest_in path_local_in assign_in set_in simple_by simple_in led_in block_in else_in if_in while_in block_stmt_in stmt_by stmt_in stmts_of param_in next_param_in params_in params_of rel_in next_rel_in sharing_in next_name_in listed_in list_in method_in void_in typed_end_in typed_in body_in inner_in top_decl_in inner_member_in member_by member_in members_of top_by top_in tops_in whole_in many
eight_deep = refl

nine_deep : fault (inner_in true 5 (members_of true 5) kind.Class 9 (n 1 ∷ o m.OpenBrace ∷ o m.CloseBrace ∷ [])) ≡ Some (Passed limit.Declarations 3)
unfolding dot_in bang_in names_in tail_in ref_in class_in own_in prefix_in after_names_in name_or_class_in after_name_in term_by term_in mask_in view_in atom_in next_atom_in atoms_in class_type_in type_in link_in chain_in pair_in shut_args_in call_args_in new_in super_call_in super_in parens_in prim_by prim_in call_in suffix_in post_in viewed_in inverse_in negative_in unary_in product_in sum_in comparison_in equality_in conjunction_in expr_in arg_in args_in level new_name_in counting value_in tested_in test_in return_in printed_by printed_in print_open_in print_in local_end_in local_in type_rest_in path_local_in assign_in set_in simple_by simple_in led_in block_in else_in if_in while_in block_stmt_in stmt_by stmt_in stmts_of param_in next_param_in params_in params_of rel_in next_rel_in sharing_in next_name_in listed_in list_in method_in void_in typed_end_in typed_in body_in inner_in top_decl_in inner_member_in member_by member_in members_of top_by top_in tops_in whole_in many
nine_deep = refl

-- a member of one at the depth 8, which is no name: syntax comes first
no_name_deep : fault (inner_in true 5 (members_of true 5) kind.Class 9 (o m.OpenBrace ∷ o m.CloseBrace ∷ [])) ≡ Some (Syntax 2)
unfolding dot_in bang_in names_in tail_in ref_in class_in own_in prefix_in after_names_in name_or_class_in after_name_in term_by term_in mask_in view_in atom_in next_atom_in atoms_in class_type_in type_in link_in chain_in pair_in shut_args_in call_args_in new_in super_call_in super_in parens_in prim_by prim_in call_in suffix_in post_in viewed_in inverse_in negative_in unary_in product_in sum_in comparison_in equality_in conjunction_in expr_in arg_in args_in level new_name_in counting value_in tested_in test_in return_in printed_by printed_in print_open_in print_in local_end_in local_in type_rest_in path_local_in assign_in set_in simple_by simple_in led_in block_in else_in if_in while_in block_stmt_in stmt_by stmt_in stmts_of param_in next_param_in params_in params_of rel_in next_rel_in sharing_in next_name_in listed_in list_in method_in void_in typed_end_in typed_in body_in inner_in top_decl_in inner_member_in member_by member_in members_of top_by top_in tops_in whole_in many
no_name_deep = refl

-- parameters: the 15th and the 16th
fifteen_params : fault (param_in true 5 15 (k Int ∷ n 1 ∷ [])) ≡ None
unfolding dot_in bang_in names_in tail_in ref_in class_in own_in prefix_in after_names_in name_or_class_in after_name_in term_by term_in mask_in view_in atom_in next_atom_in atoms_in class_type_in type_in link_in chain_in pair_in shut_args_in call_args_in new_in super_call_in super_in parens_in prim_by prim_in call_in suffix_in post_in viewed_in inverse_in negative_in unary_in product_in sum_in comparison_in equality_in conjunction_in expr_in arg_in args_in level new_name_in counting value_in tested_in test_in return_in printed_by printed_in print_open_in print_in local_end_in local_in type_rest_in path_local_in assign_in set_in simple_by simple_in led_in block_in else_in if_in while_in block_stmt_in stmt_by stmt_in stmts_of param_in next_param_in params_in params_of rel_in next_rel_in sharing_in next_name_in listed_in list_in method_in void_in typed_end_in typed_in body_in inner_in top_decl_in inner_member_in member_by member_in members_of top_by top_in tops_in whole_in many
fifteen_params = refl

sixteen_params : fault (param_in true 5 16 (k Int ∷ n 1 ∷ [])) ≡ Some (Passed limit.Parameters 1)
unfolding dot_in bang_in names_in tail_in ref_in class_in own_in prefix_in after_names_in name_or_class_in after_name_in term_by term_in mask_in view_in atom_in next_atom_in atoms_in class_type_in type_in link_in chain_in pair_in shut_args_in call_args_in new_in super_call_in super_in parens_in prim_by prim_in call_in suffix_in post_in viewed_in inverse_in negative_in unary_in product_in sum_in comparison_in equality_in conjunction_in expr_in arg_in args_in level new_name_in counting value_in tested_in test_in return_in printed_by printed_in print_open_in print_in local_end_in local_in type_rest_in path_local_in assign_in set_in simple_by simple_in led_in block_in else_in if_in while_in block_stmt_in stmt_by stmt_in stmts_of param_in next_param_in params_in params_of rel_in next_rel_in sharing_in next_name_in listed_in list_in method_in void_in typed_end_in typed_in body_in inner_in top_decl_in inner_member_in member_by member_in members_of top_by top_in tops_in whole_in many
sixteen_params = refl

-- locals: the 200th and the 201st
local_200 : fault (stmt_in true 5 (stmts_of true 5) 199 (k Int ∷ n 1 ∷ o m.Equals ∷ i 1 ∷ o m.Semicolon ∷ [])) ≡ None
unfolding dot_in bang_in names_in tail_in ref_in class_in own_in prefix_in after_names_in name_or_class_in after_name_in term_by term_in mask_in view_in atom_in next_atom_in atoms_in class_type_in type_in link_in chain_in pair_in shut_args_in call_args_in new_in super_call_in super_in parens_in prim_by prim_in call_in suffix_in post_in viewed_in inverse_in negative_in unary_in product_in sum_in comparison_in equality_in conjunction_in expr_in arg_in args_in level new_name_in counting value_in tested_in test_in return_in printed_by printed_in print_open_in print_in local_end_in local_in type_rest_in path_local_in assign_in set_in simple_by simple_in led_in block_in else_in if_in while_in block_stmt_in stmt_by stmt_in stmts_of param_in next_param_in params_in params_of rel_in next_rel_in sharing_in next_name_in listed_in list_in method_in void_in typed_end_in typed_in body_in inner_in top_decl_in inner_member_in member_by member_in members_of top_by top_in tops_in whole_in many
local_200 = refl

local_201 : fault (stmt_in true 5 (stmts_of true 5) 200 (k Int ∷ n 1 ∷ o m.Equals ∷ i 1 ∷ o m.Semicolon ∷ [])) ≡ Some (Passed limit.Locals 4)
unfolding dot_in bang_in names_in tail_in ref_in class_in own_in prefix_in after_names_in name_or_class_in after_name_in term_by term_in mask_in view_in atom_in next_atom_in atoms_in class_type_in type_in link_in chain_in pair_in shut_args_in call_args_in new_in super_call_in super_in parens_in prim_by prim_in call_in suffix_in post_in viewed_in inverse_in negative_in unary_in product_in sum_in comparison_in equality_in conjunction_in expr_in arg_in args_in level new_name_in counting value_in tested_in test_in return_in printed_by printed_in print_open_in print_in local_end_in local_in type_rest_in path_local_in assign_in set_in simple_by simple_in led_in block_in else_in if_in while_in block_stmt_in stmt_by stmt_in stmts_of param_in next_param_in params_in params_of rel_in next_rel_in sharing_in next_name_in listed_in list_in method_in void_in typed_end_in typed_in body_in inner_in top_decl_in inner_member_in member_by member_in members_of top_by top_in tops_in whole_in many
local_201 = refl

-- also behind a block with the 200th
local_behind_block : fault (stmts_in true 5 (stmts_of true 5) 199 (o m.OpenBrace ∷ k Int ∷ n 1 ∷ o m.Equals ∷ i 1 ∷ o m.Semicolon ∷ o m.CloseBrace ∷ k Int ∷ n 2 ∷ o m.Equals ∷ i 1 ∷ o m.Semicolon ∷ [])) ≡ Some (Passed limit.Locals 4)
unfolding dot_in bang_in names_in tail_in ref_in class_in own_in prefix_in after_names_in name_or_class_in after_name_in term_by term_in mask_in view_in atom_in next_atom_in atoms_in class_type_in type_in link_in chain_in pair_in shut_args_in call_args_in new_in super_call_in super_in parens_in prim_by prim_in call_in suffix_in post_in viewed_in inverse_in negative_in unary_in product_in sum_in comparison_in equality_in conjunction_in expr_in arg_in args_in level new_name_in counting value_in tested_in test_in return_in printed_by printed_in print_open_in print_in local_end_in local_in type_rest_in path_local_in assign_in set_in simple_by simple_in led_in block_in else_in if_in while_in block_stmt_in stmt_by stmt_in stmts_of param_in next_param_in params_in params_of rel_in next_rel_in sharing_in next_name_in listed_in list_in method_in void_in typed_end_in typed_in body_in inner_in top_decl_in inner_member_in member_by member_in members_of top_by top_in tops_in whole_in many
local_behind_block = refl

-- atoms: eight and nine
atoms_8 : fault (type_in true 5 (n 0 ∷ atoms 7)) ≡ None
unfolding dot_in bang_in names_in tail_in ref_in class_in own_in prefix_in after_names_in name_or_class_in after_name_in term_by term_in mask_in view_in atom_in next_atom_in atoms_in class_type_in type_in link_in chain_in pair_in shut_args_in call_args_in new_in super_call_in super_in parens_in prim_by prim_in call_in suffix_in post_in viewed_in inverse_in negative_in unary_in product_in sum_in comparison_in equality_in conjunction_in expr_in arg_in args_in level new_name_in counting value_in tested_in test_in return_in printed_by printed_in print_open_in print_in local_end_in local_in type_rest_in path_local_in assign_in set_in simple_by simple_in led_in block_in else_in if_in while_in block_stmt_in stmt_by stmt_in stmts_of param_in next_param_in params_in params_of rel_in next_rel_in sharing_in next_name_in listed_in list_in method_in void_in typed_end_in typed_in body_in inner_in top_decl_in inner_member_in member_by member_in members_of top_by top_in tops_in whole_in many
atoms_8 = refl

atoms_9 : fault (type_in true 5 (n 0 ∷ atoms 8)) ≡ Some (Passed limit.Atoms 1)
unfolding dot_in bang_in names_in tail_in ref_in class_in own_in prefix_in after_names_in name_or_class_in after_name_in term_by term_in mask_in view_in atom_in next_atom_in atoms_in class_type_in type_in link_in chain_in pair_in shut_args_in call_args_in new_in super_call_in super_in parens_in prim_by prim_in call_in suffix_in post_in viewed_in inverse_in negative_in unary_in product_in sum_in comparison_in equality_in conjunction_in expr_in arg_in args_in level new_name_in counting value_in tested_in test_in return_in printed_by printed_in print_open_in print_in local_end_in local_in type_rest_in path_local_in assign_in set_in simple_by simple_in led_in block_in else_in if_in while_in block_stmt_in stmt_by stmt_in stmts_of param_in next_param_in params_in params_of rel_in next_rel_in sharing_in next_name_in listed_in list_in method_in void_in typed_end_in typed_in body_in inner_in top_decl_in inner_member_in member_by member_in members_of top_by top_in tops_in whole_in many
atoms_9 = refl

-- open marks: the 200th and the 201st, where 199 and 200 are open
open_200 : fault (stmt_in true 1 (stmts_of true 1) 0 (o m.OpenBrace ∷ o m.CloseBrace ∷ [])) ≡ None
unfolding dot_in bang_in names_in tail_in ref_in class_in own_in prefix_in after_names_in name_or_class_in after_name_in term_by term_in mask_in view_in atom_in next_atom_in atoms_in class_type_in type_in link_in chain_in pair_in shut_args_in call_args_in new_in super_call_in super_in parens_in prim_by prim_in call_in suffix_in post_in viewed_in inverse_in negative_in unary_in product_in sum_in comparison_in equality_in conjunction_in expr_in arg_in args_in level new_name_in counting value_in tested_in test_in return_in printed_by printed_in print_open_in print_in local_end_in local_in type_rest_in path_local_in assign_in set_in simple_by simple_in led_in block_in else_in if_in while_in block_stmt_in stmt_by stmt_in stmts_of param_in next_param_in params_in params_of rel_in next_rel_in sharing_in next_name_in listed_in list_in method_in void_in typed_end_in typed_in body_in inner_in top_decl_in inner_member_in member_by member_in members_of top_by top_in tops_in whole_in many
open_200 = refl

open_201 : fault (stmt_in true 0 (stmts_of true 0) 0 (o m.OpenBrace ∷ o m.CloseBrace ∷ [])) ≡ Some (Passed limit.Nesting 2)
unfolding dot_in bang_in names_in tail_in ref_in class_in own_in prefix_in after_names_in name_or_class_in after_name_in term_by term_in mask_in view_in atom_in next_atom_in atoms_in class_type_in type_in link_in chain_in pair_in shut_args_in call_args_in new_in super_call_in super_in parens_in prim_by prim_in call_in suffix_in post_in viewed_in inverse_in negative_in unary_in product_in sum_in comparison_in equality_in conjunction_in expr_in arg_in args_in level new_name_in counting value_in tested_in test_in return_in printed_by printed_in print_open_in print_in local_end_in local_in type_rest_in path_local_in assign_in set_in simple_by simple_in led_in block_in else_in if_in while_in block_stmt_in stmt_by stmt_in stmts_of param_in next_param_in params_in params_of rel_in next_rel_in sharing_in next_name_in listed_in list_in method_in void_in typed_end_in typed_in body_in inner_in top_decl_in inner_member_in member_by member_in members_of top_by top_in tops_in whole_in many
open_201 = refl

-- parts with dots: a local, a field that is set, a call, and a field alone, which is no statement
path_local : fault (stmt_in true 5 (stmts_of true 5) 0 (n 1 ∷ o m.Dot ∷ n 2 ∷ n 3 ∷ o m.Equals ∷ i 1 ∷ o m.Semicolon ∷ [])) ≡ None
unfolding dot_in bang_in names_in tail_in ref_in class_in own_in prefix_in after_names_in name_or_class_in after_name_in term_by term_in mask_in view_in atom_in next_atom_in atoms_in class_type_in type_in link_in chain_in pair_in shut_args_in call_args_in new_in super_call_in super_in parens_in prim_by prim_in call_in suffix_in post_in viewed_in inverse_in negative_in unary_in product_in sum_in comparison_in equality_in conjunction_in expr_in arg_in args_in level new_name_in counting value_in tested_in test_in return_in printed_by printed_in print_open_in print_in local_end_in local_in type_rest_in path_local_in assign_in set_in simple_by simple_in led_in block_in else_in if_in while_in block_stmt_in stmt_by stmt_in stmts_of param_in next_param_in params_in params_of rel_in next_rel_in sharing_in next_name_in listed_in list_in method_in void_in typed_end_in typed_in body_in inner_in top_decl_in inner_member_in member_by member_in members_of top_by top_in tops_in whole_in many
path_local = simp the_lemmas

set_field : fault (stmt_in true 5 (stmts_of true 5) 0 (k This ∷ o m.Dot ∷ n 9 ∷ o m.Dot ∷ n 3 ∷ o m.Equals ∷ i 3 ∷ o m.Semicolon ∷ [])) ≡ None
unfolding dot_in bang_in names_in tail_in ref_in class_in own_in prefix_in after_names_in name_or_class_in after_name_in term_by term_in mask_in view_in atom_in next_atom_in atoms_in class_type_in type_in link_in chain_in pair_in shut_args_in call_args_in new_in super_call_in super_in parens_in prim_by prim_in call_in suffix_in post_in viewed_in inverse_in negative_in unary_in product_in sum_in comparison_in equality_in conjunction_in expr_in arg_in args_in level new_name_in counting value_in tested_in test_in return_in printed_by printed_in print_open_in print_in local_end_in local_in type_rest_in path_local_in assign_in set_in simple_by simple_in led_in block_in else_in if_in while_in block_stmt_in stmt_by stmt_in stmts_of param_in next_param_in params_in params_of rel_in next_rel_in sharing_in next_name_in listed_in list_in method_in void_in typed_end_in typed_in body_in inner_in top_decl_in inner_member_in member_by member_in members_of top_by top_in tops_in whole_in many
set_field = simp the_lemmas

calls : fault (stmt_in true 5 (stmts_of true 5) 0 (n 9 ∷ o m.Dot ∷ n 5 ∷ o m.OpenParen ∷ n 9 ∷ o m.Comma ∷ i 2 ∷ o m.CloseParen ∷ o m.Dot ∷ n 6 ∷ o m.OpenParen ∷ o m.CloseParen ∷ o m.Semicolon ∷ [])) ≡ None
unfolding dot_in bang_in names_in tail_in ref_in class_in own_in prefix_in after_names_in name_or_class_in after_name_in term_by term_in mask_in view_in atom_in next_atom_in atoms_in class_type_in type_in link_in chain_in pair_in shut_args_in call_args_in new_in super_call_in super_in parens_in prim_by prim_in call_in suffix_in post_in viewed_in inverse_in negative_in unary_in product_in sum_in comparison_in equality_in conjunction_in expr_in arg_in args_in level new_name_in counting value_in tested_in test_in return_in printed_by printed_in print_open_in print_in local_end_in local_in type_rest_in path_local_in assign_in set_in simple_by simple_in led_in block_in else_in if_in while_in block_stmt_in stmt_by stmt_in stmts_of param_in next_param_in params_in params_of rel_in next_rel_in sharing_in next_name_in listed_in list_in method_in void_in typed_end_in typed_in body_in inner_in top_decl_in inner_member_in member_by member_in members_of top_by top_in tops_in whole_in many
calls = simp the_lemmas

no_field_alone : fault (stmt_in true 5 (stmts_of true 5) 0 (n 1 ∷ o m.Dot ∷ n 2 ∷ o m.Semicolon ∷ [])) ≡ Some (Syntax 1)
unfolding dot_in bang_in names_in tail_in ref_in class_in own_in prefix_in after_names_in name_or_class_in after_name_in term_by term_in mask_in view_in atom_in next_atom_in atoms_in class_type_in type_in link_in chain_in pair_in shut_args_in call_args_in new_in super_call_in super_in parens_in prim_by prim_in call_in suffix_in post_in viewed_in inverse_in negative_in unary_in product_in sum_in comparison_in equality_in conjunction_in expr_in arg_in args_in level new_name_in counting value_in tested_in test_in return_in printed_by printed_in print_open_in print_in local_end_in local_in type_rest_in path_local_in assign_in set_in simple_by simple_in led_in block_in else_in if_in while_in block_stmt_in stmt_by stmt_in stmts_of param_in next_param_in params_in params_of rel_in next_rel_in sharing_in next_name_in listed_in list_in method_in void_in typed_end_in typed_in body_in inner_in top_decl_in inner_member_in member_by member_in members_of top_by top_in tops_in whole_in many
no_field_alone = simp the_lemmas

no_local_behind_call : fault (stmt_in true 5 (stmts_of true 5) 0 (n 1 ∷ o m.Dot ∷ n 2 ∷ o m.OpenParen ∷ o m.CloseParen ∷ n 3 ∷ [])) ≡ Some (Syntax 1)
unfolding dot_in bang_in names_in tail_in ref_in class_in own_in prefix_in after_names_in name_or_class_in after_name_in term_by term_in mask_in view_in atom_in next_atom_in atoms_in class_type_in type_in link_in chain_in pair_in shut_args_in call_args_in new_in super_call_in super_in parens_in prim_by prim_in call_in suffix_in post_in viewed_in inverse_in negative_in unary_in product_in sum_in comparison_in equality_in conjunction_in expr_in arg_in args_in level new_name_in counting value_in tested_in test_in return_in printed_by printed_in print_open_in print_in local_end_in local_in type_rest_in path_local_in assign_in set_in simple_by simple_in led_in block_in else_in if_in while_in block_stmt_in stmt_by stmt_in stmts_of param_in next_param_in params_in params_of rel_in next_rel_in sharing_in next_name_in listed_in list_in method_in void_in typed_end_in typed_in body_in inner_in top_decl_in inner_member_in member_by member_in members_of top_by top_in tops_in whole_in many
no_local_behind_call = simp the_lemmas

-- masks: the 256th different one and the 257th; one that stands before counts once
masks_256 : shows (record { masks = below 255; behind = true }) (Some 255) ≡ None
masks_256 = refl

masks_257 : shows (record { masks = below 256; behind = true }) (Some 256) ≡ Some limit.Masks
masks_257 = refl

mask_again : shows (record { masks = below 256; behind = true }) (Some 255) ≡ None
mask_again = refl

no_mask : shows (record { masks = below 256; behind = false }) (Some 256) ≡ None
no_mask = refl

-- names: the 65,535th and the 65,536th, which are numbered from 0
names_65535 : shows (record { masks = []; behind = false }) (Some 65534) ≡ None
names_65535 = refl

names_65536 : shows (record { masks = []; behind = false }) (Some 65535) ≡ Some limit.Names
names_65536 = refl
