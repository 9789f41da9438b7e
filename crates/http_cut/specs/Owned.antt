-- Requests with bytes of their own.
use Rattle.std.specs.Prelude.{List, map}
use Rattle.http_cut.specs.declared.owned.OwnedRequest.{OwnedRequest}
use Rattle.http_cut.specs.Requests.{Request}

abbrev pub owned_value : OwnedRequest → Request
owned_value request = record {
  method = request.method;
  target = request.target;
  media = request.media;
  close = request.close;
  body = request.body;
  size = request.length;
}

abbrev pub owned_values : List OwnedRequest → List Request
owned_values requests = map owned_value requests
