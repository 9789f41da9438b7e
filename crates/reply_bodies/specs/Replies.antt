-- The trees of replies.
use Rattle.cbor_profile.specs.Tree.{Tree}
use Rattle.reply_bodies.specs.declared.reply.Reply.{Reply}
use Rattle.reply_bodies.specs.declared.reply.Reply.TheVariants as reply
use Rattle.reply_bodies.specs.Mitigations.{granted_tree, views_tree}
use Rattle.reply_bodies.specs.Conflicts.{conflict_tree}
use Rattle.reply_bodies.specs.Sessions.{session_tree, beat_tree}

abbrev pub reply_tree : Reply → Tree
reply_tree (reply.Granted mid lifetime) = granted_tree mid lifetime
reply_tree (reply.Mitigations views) = views_tree views
reply_tree (reply.Conflict conflict) = conflict_tree conflict
reply_tree (reply.Session view) = session_tree view
reply_tree (reply.Beat heard) = beat_tree heard
