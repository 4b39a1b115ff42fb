-- What a call of the program answers: the model.
use Rattle.std.specs.Prelude.{◌≡◌, ℕ, List, Option, Some, None}
use Rattle.keyed.specs.Functions.{Hash}
use Rattle.outside.specs.Files.{Content}
use Rattle.keyed.specs.Functions.{Check}
use Rattle.command_words.specs.Command.{Command, command_of}
use Rattle.replies.specs.Plan.{Plan, Given, GivenBy}
use Rattle.replies.specs.Recipe.{model}
use Rattle.replies.specs.Reply.{Reply, reply_of, usage_reply}
use Rattle.replies.specs.Steps.{reads_of}
use Rattle.chain_top.specs.Choice.{Choice}
use Rattle.chain_top.specs.Commands.{recipe_of}
use Rattle.word_lines.specs.Word.{Word}

-- the replies to a command, or to words that are none, for what the files hold by the numbers of the reads
abbrev pub CommandReply : Hash → Check → Choice → Option Command → Given → Reply → Type 0
CommandReply hash check choice None given reply = reply ≡ usage_reply
CommandReply hash check choice (Some command) given reply =
    (plan : Plan) × model (recipe_of hash check choice command) given plan × (reply ≡ reply_of plan)

-- the replies to words
abbrev pub IsReply : Hash → Check → List Word → Choice → Given → Reply → Type 0
IsReply hash check words choice given reply = CommandReply hash check choice (command_of words) given reply

-- the same for what the files hold by their names
abbrev pub ReplyFor : Hash → Check → List Word → Choice → (List ℕ → Content) → Reply → Type 0
ReplyFor hash check words choice contents reply =
    (given : Given)
    × IsReply hash check words choice given reply
    × GivenBy (Some contents) (reads_of reply.steps) given
