-- What is found twice, and what bodies declare, stands in the order of places.
use Rattle.std.proofs.Common.{◌≡◌, ℕ, List, [], ◌∷◌, map, refl, sym, ap, ◌∙◌, subst, arith}
use Rattle.std.proofs.lemmas.List.{map-append}
use Rattle.jn_base.specs.declared.tree.Place.{Place}
use Rattle.jn_base.specs.declared.tree.Decl.{Decl}
use Rattle.jn_base.specs.declared.tree.Program.{Program}
use Rattle.jn_base.specs.declared.word.Lexeme.{Lexeme}
use Rattle.jn_base.specs.Words.{last_word}
use Rattle.jn_base.specs.Parts.{Part, lexeme_of, end_of_file}
use Rattle.jn_base.specs.Paths.{Path, StandsIn}
use Rattle.jn_base.specs.Spelling.{SourceSpells}
use Rattle.jn_sources.specs.SourceOrder.{Ascend, BodyAscends, AreInSourceOrder}
use Rattle.jn_sources.proofs.Subsequence.{Sub}
use Rattle.jn_sources.proofs.BodyPlaces.{tops_sub}
use Rattle.jn_sources.proofs.ProgramWords.{front, end_place, front_split, top_names, nested_names, field_names, method_names, standing_in}
use Rattle.jn_sources.proofs.PlaceOrder.{Rise, by_line, part_place, sub_rises, words_rise, rise_ascends, tokens_order, without_last}

abbrev nowhere : Place
nowhere = record { line = 0; column = 0 }

-- the places of the words of a source rise, up to the end of the file
module _ (p : Program) (bytes : List ℕ) (s : SourceSpells p bytes) where
  abbrev words : List Part
  words = front s.is_program

  words_are : s.are_words.words ≡ map lexeme_of words
  words_are =
      without_last s.are_words.words (map lexeme_of words) (last_word bytes s.are_words.fault)
      (lexeme_of (end_of_file (end_place s.is_program)))
      (sym s.are_words.whole ∙ ap (λ (w : List Part). map lexeme_of w) (front_split s.is_program) ∙
      map-append lexeme_of words (end_of_file (end_place s.is_program) ∷ []))

  places_are : (w : List Part) → map (λ (x : Lexeme). x.at) (map lexeme_of w) ≡ map part_place w
  places_are [] = refl
  places_are (t ∷ w) = ap (λ (ps : List Place). t.at ∷ ps) (places_are w)

  rises : Rise nowhere (map part_place words)
  rises =
      subst (λ (ps : List Place). Rise nowhere ps)
      (ap (λ (w : List Lexeme). map (λ (x : Lexeme). x.at) w) words_are ∙ places_are words)
      (words_rise bytes p.names p.texts s.are_words.tokens s.are_words.words 0 nowhere s.are_words.are_words
      (tokens_order bytes s.are_words.tokens s.are_words.fault s.are_words.lexed)
      (λ i h k. by_line (omega arith)))

  ascends : {ps : List Place} → Sub ps words → Ascend ps
  ascends {ps} sub = rise_ascends nowhere ps (sub_rises nowhere sub rises)

  body : (P : Path) (d : Decl) → StandsIn p P d → BodyAscends d
  body P d stands =
      let b = standing_in p s.is_program P d stands in record {
        declarations = ascends (b.among _ (nested_names b.words d.members b.members));
        fields_in = ascends (b.among _ (field_names b.words d.members b.members));
        methods_in = ascends (b.among _ (method_names b.words d.members b.members));
      }

  pub in_source_order : AreInSourceOrder p
  in_source_order = record {
    duplicates_found = ascends (tops_sub p.decls s.is_program []);
    top = ascends (top_names s.is_program);
    bodies = body;
  }
