-- What a call of the program did, from the state of its files and its sink before it to that after it.
use Rattle.std.specs.Prelude.{◌≡◌, ◌⊎◌, ◌↔◌, ℕ, List, Some, None}
use Rattle.keyed.specs.Functions.{Hash, Check}
use Rattle.outside.specs.Files.{Content}
use Rattle.outside.specs.World.{World}
use Rattle.command_words.specs.Command.{Command, Apply, command_of}
use Rattle.replies.specs.Answer.{HasStatus, HasCauses, Tells}
use Rattle.replies.specs.Plan.{Given, GivenBy}
use Rattle.replies.specs.Recipe.{FilesRead, OwnRefusal}
use Rattle.replies.specs.Reply.{Reply}
use Rattle.replies.specs.Steps.{Begun, Did, IsFront, reads_of}
use Rattle.replies.specs.Whole.{NoneFailed, IsWhole}
use Rattle.chain_top.specs.Choice.{Choice}
use Rattle.chain_top.specs.Commands.{recipe_of}
use Rattle.chain_top.specs.Growth.{Grown}
use Rattle.chain_top.specs.Reply.{IsReply}
use Rattle.word_lines.specs.Word.{Word}

pub record Call (hash : Hash) (check : Check) (words : List Word) (before after : World) (status : ℕ) : Type 0 where
  -- what each read of a file is given, by its number
  pub given : Given
  -- what the call itself prints from where it prints compiled contracts
  pub choice : Choice
  -- the model's reply to the words
  pub reply : Reply
  pub is_reply : IsReply hash check words choice given reply
  -- what the reads are given is what the files hold, where they say it
  pub agrees : GivenBy before.contents (reads_of reply.steps) given
  -- some first steps of the reply were begun, of which the last perhaps failed, and nothing else was done
  pub begun : Begun
  pub front : IsFront reply.steps begun
  pub did : Did begun before after
  -- all of them where the status is 0, 1 or 2; where it is 5, none failed, and a print that ends the reply was not done
  pub has_status : HasStatus reply begun status
  -- the same of the printed bytes, the reads and the writes, each for itself
  pub tells : Tells reply before after status
  -- status 3 and 4 come only where a count of faults rose, and where one rose no other status comes
  pub causes : HasCauses before after status
  -- where no call on the files or the sink failed: all of the reply and its status, or out of memory
  pub whole : NoneFailed before after → IsWhole reply before after status ⊎ (status ≡ 5)
  -- the reply has status 1 exactly where the words are outside the grammar
  pub usage : (reply.status ≡ 1) ↔ (command_of words ≡ None)
  -- over files that are there, within their sizes, and read by their formats, the reply has status 0, or one of the
  -- command's own checks refuses
  pub complete :
      (contents : List ℕ → Content) (command : Command)
      → command_of words ≡ Some command
      → before.contents ≡ Some contents
      → FilesRead (recipe_of hash check choice command) contents
      → (reply.status ≡ 0) ⊎ OwnRefusal (recipe_of hash check choice command) contents reply
  -- `apply` that ends with status 0 has added to its ledger the frames of exactly the offers that are accepted
  pub growth :
      (ledger offers : Word)
      → command_of words ≡ Some (Apply ledger offers)
      → status ≡ 0
      → Grown hash check ledger offers given reply before after
