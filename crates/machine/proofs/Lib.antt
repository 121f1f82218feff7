mod RenamedExec
mod RenamedCalls
