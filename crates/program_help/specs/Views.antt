-- The code's topics as contracts see them.
use Rattle.program_help.specs.declared.topics.Topic as code
use Rattle.program_help.specs.declared.topics.Topic.TheVariants as t
use Rattle.program_help.specs.Help.{Topic, all, one, version}

abbrev pub topic_of : code.Topic → Topic
topic_of t.All = all
topic_of (t.Of page) = one page
topic_of t.Version = version
