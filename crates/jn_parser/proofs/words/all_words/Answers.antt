use Rattle.std.proofs.Common.{ℕ, Vec, Global, refl}
use Rattle.jn_parser.proofs.TokenTexts.{have_texts}
use Rattle.jn_parser.proofs.Mentioning.{words_are}
use Rattle.jn_parser.proofs.words.all_words.Goals as goal

pub mentioned-requires-clause-texts : goal.mentioned-requires-clause-texts
mentioned-requires-clause-texts c = rw c.as_slice.ensures.value (have_texts c.args.bytes.now c.args.scanned.now.tokens.items c.args.scanned.now.fault c.requires.lexed)

pub returns : goal.returns
returns c =
    words_are (λ (k : Vec ℕ Global). k.items) c.args.bytes.now c.args.scanned.now.tokens.items c.as_slice.result.now c.args.scanned.now.fault c.mentioned.new.seen.words.items c.push.new.self.items c.last_word.result
    c.mentioned.new.seen.names.keys c.mentioned.new.seen.texts.keys _ _ c.requires.lexed c.as_slice.ensures.value c.in_ok-mentioned.ensures c.last_word.ensures c.in_ok-push.ensures.items refl refl
