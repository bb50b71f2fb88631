-- The starred exchanges of the rules, all under one proof: the definitions compute to what must be seen.
use mathlib.Core.Path.{refl}
use Rattle.exports.specs.Rules.{text, good_device}
use Rattle.tables.specs.Tables.{good_table}
use Rattle.tape.specs.Table.{tape_table}
use Rattle.records.specs.Records.{device_record}
use Rattle.importing.specs.Imports.{import_reply, import_refusal}
use Rattle.listing.specs.Lists.{listed_device, list_reply}
use Rattle.descriptors.specs.Descriptors.{descriptors_of}
use Rattle.replies.specs.Replies.{submit_reply}
use Rattle.ground.specs.Tests.{decide, pick}
use Rattle.halving.specs.Halving.{looked, binary_digits, halved}
use Rattle.model.specs.Machine.{feed}
use Rattle.model.specs.Judging.{grow, submitted, submitting, whole_header, message, requested, looked_up, request, judge}
use Rattle.model.specs.Acts.{reply_to, put, write_reply, feed_of, complete_of, open_of}
use Rattle.exchanges.specs.Exchanges.{Known}

pub known : Known
unfolding text good_device good_table tape_table device_record listed_device list_reply import_reply import_refusal
    decide pick feed grow submitted submitting whole_header message requested looked_up request
    descriptors_of submit_reply judge reply_to put write_reply feed_of looked binary_digits halved complete_of open_of
known = (refl, refl)
