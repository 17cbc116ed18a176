-- A finished copy job.
use Rattle.nm_frames.specs.declared.job.CopyJob.{CopyJob}

-- the job after its copy: the frames, source bytes and ticket are the same, and the target's bytes are the source's
abbrev pub job_after_copy : {A : Type 0} → CopyJob A → CopyJob A
job_after_copy j = record { source = j.source; target = (j.target.0, j.source.1); ticket = j.ticket }
