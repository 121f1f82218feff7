-- What a reading of a report's lines knows of the chain that goes on, as it is kept.
use Rattle.chain_report.specs.OpenCalls.{calls_of}
use Rattle.chain_report.specs.Verify.{Progress}
use Rattle.chain_report.specs.declared.chain_checks.Reading.{Reading}

abbrev pub progress_of : Reading → Progress
progress_of reading = record { at = reading.at; calls = calls_of reading.calls.items; first = reading.first; second = reading.second }
