mod FineFile
