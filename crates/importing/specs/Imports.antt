-- The reply to an import request (PROTOCOL.md, 4.2).
use Rattle.std.specs.Prelude.{ℕ, List, ◌++◌}
use Rattle.wire.specs.Codes.{OP-REP-IMPORT}
use Rattle.messages.specs.Messages.{reply_head}
use Rattle.exports.specs.declared.device.Device.{Device}
use Rattle.records.specs.Records.{device_record}

-- The import reply: the device's record with status 0, or status 1 and nothing more.
unfoldable pub import_reply : Device → List ℕ
import_reply d = reply_head OP-REP-IMPORT 0 ++ device_record d

unfoldable pub import_refusal : List ℕ
import_refusal = reply_head OP-REP-IMPORT 1
