-- Laws of the model.
use Rattle.std.specs.Prelude.{◌≡◌, ◌↔◌, ℕ, List, None}
use Rattle.keyed.specs.Functions.{Check, Hash}
use Rattle.outside.specs.Bytes.{HoldsBytes}
use Rattle.outside.specs.Files.{Content}
use Rattle.command_words.specs.Command.{command_of}
use Rattle.replies.specs.Plan.{Given, AreBytesGiven}
use Rattle.replies.specs.Reply.{Reply}
use Rattle.chain_top.specs.Choice.{Choice}
use Rattle.chain_top.specs.Reply.{IsReply, ReplyFor}
use Rattle.word_lines.specs.Word.{Word}

-- the model gives one reply
pub record ReplyLaws (hash : Hash) (check : Check) : Type 0 where
  -- to all words, whatever bytes the reads are given
  pub some :
      (words : List Word) (choice : Choice) (given : Given)
      → AreBytesGiven given
      → (reply : Reply) × IsReply hash check words choice given reply
  -- and no two
  pub one :
      (words : List Word) (choice : Choice) (given : Given) (a b : Reply)
      → IsReply hash check words choice given a
      → IsReply hash check words choice given b
      → a ≡ b
  -- the same for what the files hold by their names
  pub some_for :
      (words : List Word) (choice : Choice) (contents : List ℕ → Content)
      → ((name : List ℕ) → HoldsBytes (contents name))
      → (reply : Reply) × ReplyFor hash check words choice contents reply
  pub one_for :
      (words : List Word) (choice : Choice) (contents : List ℕ → Content) (a b : Reply)
      → ReplyFor hash check words choice contents a
      → ReplyFor hash check words choice contents b
      → a ≡ b
  -- it has status 1 exactly where the words are outside the grammar
  pub usage :
      (words : List Word) (choice : Choice) (given : Given) (reply : Reply)
      → IsReply hash check words choice given reply
      → (reply.status ≡ 1) ↔ (command_of words ≡ None)
  -- no command of today goes by what the compiler chose
  pub any_choice :
      (words : List Word) (choice other : Choice) (given : Given) (reply : Reply)
      → IsReply hash check words choice given reply ↔ IsReply hash check words other given reply
