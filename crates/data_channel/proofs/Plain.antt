-- The bodies of replies have no fractions.
use Rattle.std.proofs.Common.{◌≡◌, false, refl}
use Rattle.serde_json.specs.Written.{has_float}
use Rattle.list_json.specs.AliasPrinting.{alias_data}
use Rattle.list_json.specs.ListPrinting.{acl_data}
use Rattle.list_json.proofs.Plain.{items_plain, alias_plain, acl_plain}
use Rattle.data_channel.specs.declared.replies.RestBody.{RestBody}
use Rattle.data_channel.specs.declared.replies.RestBody.TheVariants as body
use Rattle.data_channel.specs.Replies.{body_data}

pub body_plain : (body : RestBody) → has_float (body_data body) ≡ false
body_plain (body.Client cuid aliases acls) = rw (items_plain acl_data acls acl_plain, items_plain alias_data aliases alias_plain) refl
body_plain (body.Aliases aliases) = rw (items_plain alias_data aliases alias_plain) refl
body_plain (body.OneAlias alias) = rw (alias_plain alias) refl
body_plain (body.Acls acls) = rw (items_plain acl_data acls acl_plain) refl
body_plain (body.OneAcl acl) = rw (acl_plain acl) refl
