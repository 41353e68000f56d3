-- The header's numbers stand one behind the other.
-- Assumes nothing.
use Rattle.std.proofs.Common.{refl, arith}
use Rattle.bench_file.specs.File.{header_bytes, packet_place}
use Rattle.bench_writer.proofs.Putting.{number_put, header_put}
use Rattle.bench_writer.proofs.finish.Goals as goal

pub returns : goal.returns
returns c =
    let d = c.args.draft in
    record {
      length_is = refl;
      buffer_is =
          header_put c.args.buffer.now d.packets d.words (omega arith)
          (number_put 4 d.packets 0 _ c.to_le_bytes.ensures c.put.ensures)
          (number_put 4 d.words 4 _ c.to_le_bytes-2.ensures c.put-2.ensures)
          (number_put 4 header_bytes 8 _ c.to_le_bytes-3.ensures c.put-3.ensures)
          (number_put 4 (packet_place d.packets) 12 _ c.to_le_bytes-4.ensures c.put-4.ensures);
    }
