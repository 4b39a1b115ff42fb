-- The words of a refusal as the code holds them. Only contracts of private functions name it.
use Rattle.std.specs.Prelude.{ℕ, List, ◌++◌}
use Rattle.word_lines.specs.Piece.{joined, text_of}
use Rattle.command_lines.specs.declared.refused.Words.{Words}
use Rattle.command_lines.specs.declared.refused.TxWords.{TxWords}

-- the name of a refusal, and its values after it
abbrev pub words_of : Words → List ℕ
words_of words = words.0.now ++ joined words.1

-- the same of a refusal of a transaction
abbrev pub tx_words_of : TxWords → List ℕ
tx_words_of words = words.0.now ++ (text_of words.1 ++ (text_of words.2 ++ text_of words.3))
